use Rattle.std.proofs.Common.{◌≡◌, take}
use Rattle.pipe_model.specs.History.{history}
use Rattle.pipe_model.specs.Posts.{is_out}
use Rattle.plain_counts.proofs.posts.is_out.Given as goal

abbrev pub invariant-loop-step : goal.invariant-loop-step
invariant-loop-step l = l.out ≡ is_out (history (take l.step-index l.steps)) l.at
