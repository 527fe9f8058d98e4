use Rattle.std.proofs.Common.{◌≡◌, drop}
use Rattle.std.specs.List.{list_any}
use Rattle.plain_handlers.specs.Tests.{outcome_test}
use Rattle.plain_handlers.proofs.ends.any_passes.Given as goal

abbrev pub invariant-loop-outcome : goal.invariant-loop-outcome
invariant-loop-outcome l = list_any (outcome_test l.by_sink) (drop l.outcome-index l.outcomes) ≡ list_any (outcome_test l.by_sink) l.outcomes
