use Rattle.std.proofs.Common.{◌≡◌, drop}
use Rattle.std.specs.List.{list_all}
use Rattle.pipe_types.specs.Handlers.{is_own_outcome}
use Rattle.plain_handlers.proofs.ends.are_own_outcomes.Given as goal

abbrev pub invariant-loop-outcome : goal.invariant-loop-outcome
invariant-loop-outcome l = list_all is_own_outcome (drop l.outcome-index l.outcomes) ≡ list_all is_own_outcome l.outcomes
