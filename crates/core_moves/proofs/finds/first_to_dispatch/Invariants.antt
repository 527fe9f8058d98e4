use Rattle.std.proofs.Common.{◌≡◌, drop}
use Rattle.std.specs.Prelude.{find}
use Rattle.pipe_model.specs.Legal.{may_dispatch}
use Rattle.core_moves.proofs.finds.first_to_dispatch.Given as goal

abbrev pub invariant-loop-spec : goal.invariant-loop-spec
invariant-loop-spec l = find (λ spec. may_dispatch l.core.topology l.core.journal.steps spec.no) (drop l.spec-index l.spec-items) ≡ find (λ spec. may_dispatch l.core.topology l.core.journal.steps spec.no) l.spec-items
