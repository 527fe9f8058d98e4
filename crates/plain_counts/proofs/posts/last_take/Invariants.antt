use Rattle.std.proofs.Common.{◌≡◌, take}
use Rattle.pipe_model.specs.History.{history}
use Rattle.pipe_model.specs.Posts.{last_take}
use Rattle.plain_counts.proofs.posts.last_take.Given as goal

abbrev pub invariant-loop-step : goal.invariant-loop-step
invariant-loop-step l = l.last ≡ last_take (history (take l.step-index l.steps)) l.stage
