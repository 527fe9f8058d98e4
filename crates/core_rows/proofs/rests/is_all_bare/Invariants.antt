use Rattle.std.proofs.Common.{◌≡◌, drop, false}
use Rattle.std.specs.List.{list_all}
use Rattle.pipe_model.specs.Moves.{jobs_out}
use Rattle.pipe_model.specs.Standing.{is_clear}
use Rattle.core_rows.proofs.rests.is_all_bare.Given as goal

abbrev pub invariant-loop-spec : goal.invariant-loop-spec
invariant-loop-spec l = jobs_out l.core.topology l.core.journal.steps ≡ false → list_all (λ spec. is_clear l.core.topology l.core.journal.steps spec.no) (drop l.spec-index l.spec-items) ≡ list_all (λ spec. is_clear l.core.topology l.core.journal.steps spec.no) l.spec-items
