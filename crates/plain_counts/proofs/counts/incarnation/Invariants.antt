use Rattle.std.proofs.Common.{◌≡◌, take}
use Rattle.pipe_model.specs.History.{history, incarnation}
use Rattle.plain_counts.proofs.counts.incarnation.Given as goal

abbrev pub invariant-loop-step : goal.invariant-loop-step
invariant-loop-step l = l.count ≡ incarnation (history (take l.step-index l.steps)) l.stage
