use Rattle.std.proofs.Common.{◌≡◌, take}
use Rattle.pipe_model.specs.History.{history}
use Rattle.pipe_model.specs.Legal.{has_ended}
use Rattle.plain_counts.proofs.sources.has_ended.Given as goal

abbrev pub invariant-loop-step : goal.invariant-loop-step
invariant-loop-step l = l.found ≡ has_ended (history (take l.step-index l.steps)) l.stage
