use Rattle.std.proofs.Common.{◌≡◌, take}
use Rattle.pipe_model.specs.History.{history, controls}
use Rattle.plain_counts.proofs.counts.controls.Given as goal

abbrev pub invariant-loop-step : goal.invariant-loop-step
invariant-loop-step l = l.count ≡ controls (history (take l.step-index l.steps))
