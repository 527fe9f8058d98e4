use Rattle.std.proofs.Common.{◌≡◌, take}
use Rattle.pipe_model.specs.History.{history}
use Rattle.pipe_model.specs.Legal.{happened, is_halt}
use Rattle.plain_counts.proofs.sources.has_halted.Given as goal

abbrev pub invariant-loop-step : goal.invariant-loop-step
invariant-loop-step l = l.found ≡ happened is_halt (history (take l.step-index l.steps))
