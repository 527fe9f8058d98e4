use Rattle.std.proofs.Common.{◌≡◌, drop}
use Rattle.std.specs.List.{list_any}
use Rattle.core_allows.specs.Lives.{does_halt}
use Rattle.core_allows.proofs.lives.may_halt.Given as goal

abbrev pub invariant-loop-spec : goal.invariant-loop-spec
invariant-loop-spec l =
    list_any (does_halt l.core.topology l.core.journal.steps) (drop l.spec-index l.spec-items)
    ≡ list_any (does_halt l.core.topology l.core.journal.steps) l.spec-items
