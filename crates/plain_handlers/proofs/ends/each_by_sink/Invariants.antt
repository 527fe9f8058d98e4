use Rattle.std.proofs.Common.{◌≡◌, ◌++◌, drop, map}
use Rattle.plain_handlers.specs.Tests.{outcome_by_sink}
use Rattle.plain_handlers.proofs.ends.each_by_sink.Given as goal

abbrev pub invariant-loop-outcome : goal.invariant-loop-outcome
invariant-loop-outcome l = l.all.items ++ map outcome_by_sink (drop l.outcome-index l.outcomes) ≡ map outcome_by_sink l.outcomes
