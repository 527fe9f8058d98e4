use Rattle.std.proofs.Common.{◌≡◌, take}
use Rattle.pipe_model.specs.History.{history, asked}
use Rattle.plain_counts.proofs.counts.asked.Given as goal

abbrev pub invariant-loop-step : goal.invariant-loop-step
invariant-loop-step l = l.count ≡ asked (history (take l.step-index l.steps)) l.sub
