use Rattle.std.proofs.Common.{◌≡◌, drop}
use Rattle.std.specs.Prelude.{not, ◌||◌}
use Rattle.std.specs.List.{list_all}
use Rattle.pipe_model.specs.Legal.{is_producer_role, has_ended}
use Rattle.core_rows.proofs.causes.is_all_ended.Given as goal

abbrev pub invariant-loop-spec : goal.invariant-loop-spec
invariant-loop-spec l = list_all (λ spec. not (is_producer_role spec.role) || has_ended l.core.journal.steps spec.no) (drop l.spec-index l.spec-items) ≡ list_all (λ spec. not (is_producer_role spec.role) || has_ended l.core.journal.steps spec.no) l.spec-items
