use Rattle.std.proofs.Common.{◌≡◌, take}
use Rattle.pipe_model.specs.History.{history}
use Rattle.pipe_model.specs.Content.{gathers}
use Rattle.plain_counts.proofs.contents.gathers.Given as goal

abbrev pub invariant-loop-step : goal.invariant-loop-step
invariant-loop-step l = l.units.items ≡ gathers (history (take l.step-index l.steps)) l.stage
