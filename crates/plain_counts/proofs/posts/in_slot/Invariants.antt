use Rattle.std.proofs.Common.{◌≡◌, take}
use Rattle.pipe_model.specs.History.{history}
use Rattle.pipe_model.specs.Posts.{in_slot}
use Rattle.plain_counts.proofs.posts.in_slot.Given as goal

abbrev pub invariant-loop-step : goal.invariant-loop-step
invariant-loop-step l = l.last ≡ in_slot (history (take l.step-index l.steps)) l.stage l.slot
