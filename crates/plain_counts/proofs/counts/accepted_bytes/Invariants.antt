use Rattle.std.proofs.Common.{◌≡◌, take}
use Rattle.pipe_model.specs.History.{history, accepted_bytes}
use Rattle.plain_counts.proofs.counts.accepted_bytes.Given as goal

abbrev pub invariant-loop-step : goal.invariant-loop-step
invariant-loop-step l = l.count ≡ accepted_bytes (history (take l.step-index l.steps))
