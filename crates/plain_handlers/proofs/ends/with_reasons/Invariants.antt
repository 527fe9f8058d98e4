use Rattle.std.proofs.Common.{◌≡◌, ◌++◌, drop, map}
use Rattle.pipe_types.specs.Handlers.{outcome_with}
use Rattle.plain_handlers.proofs.ends.with_reasons.Given as goal

abbrev pub invariant-loop-outcome : goal.invariant-loop-outcome
invariant-loop-outcome l = l.all.items ++ map (outcome_with l.spec.failed) (drop l.outcome-index l.outcomes) ≡ map (outcome_with l.spec.failed) l.outcomes
