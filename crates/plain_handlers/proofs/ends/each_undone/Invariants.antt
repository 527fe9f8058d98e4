use Rattle.std.proofs.Common.{◌≡◌, ◌++◌, drop, map}
use Rattle.plain_handlers.specs.Tests.{outcome_undone}
use Rattle.plain_handlers.proofs.ends.each_undone.Given as goal

abbrev pub invariant-loop-outcome : goal.invariant-loop-outcome
invariant-loop-outcome l = l.all.items ++ map outcome_undone (drop l.outcome-index l.outcomes) ≡ map outcome_undone l.outcomes
