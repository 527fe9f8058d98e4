use Rattle.std.proofs.Common.{◌≡◌, take}
use Rattle.pipe_model.specs.History.{history, now}
use Rattle.plain_counts.proofs.counts.now.Given as goal

abbrev pub invariant-loop-step : goal.invariant-loop-step
invariant-loop-step l = l.now ≡ now (history (take l.step-index l.steps))
