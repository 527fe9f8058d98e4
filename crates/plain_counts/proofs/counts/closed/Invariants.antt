use Rattle.std.proofs.Common.{◌≡◌, take}
use Rattle.pipe_model.specs.History.{history, closed}
use Rattle.plain_counts.proofs.counts.closed.Given as goal

abbrev pub invariant-loop-step : goal.invariant-loop-step
invariant-loop-step l = l.count ≡ closed (history (take l.step-index l.steps))
