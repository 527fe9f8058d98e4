use Rattle.std.proofs.Common.{◌≡◌, drop}
use Rattle.std.specs.Prelude.{find}
use Rattle.pipe_model.specs.Moves.{subs_into}
use Rattle.core_rows.specs.Rows.{is_due}
use Rattle.core_rows.proofs.asks.first_due_of.Given as goal

abbrev pub invariant-loop-spec : goal.invariant-loop-spec
invariant-loop-spec l =
    let t = l.core.topology in
    let h = l.core.journal.steps in
    find (is_due t h) (subs_into t h l.consumer.no (drop l.spec-index l.spec-items)) ≡ find (is_due t h) (subs_into t h l.consumer.no l.spec-items)
