use Rattle.std.proofs.Common.{◌≡◌, refl, subst, List, ℕ, Some, IfOk}
use Rattle.std.specs.Prelude.{slice_get}
use Rattle.pipe_journal.proofs.Extending.{same, same_place, added_places}
use Rattle.pipe_journal.proofs.kept.keep_reason.Goals as goal

pub returns-then-is_reason_at-clause-kept : goal.returns-then-is_reason_at-clause-kept
returns-then-is_reason_at-clause-kept c =
    subst (λ (reasons : List (List ℕ)). IfOk c.short.result (λ n. slice_get reasons n ≡ Some c.args.why.now)) c.deref.ensures.value
    (subst (λ (text : List ℕ). IfOk c.short.result (λ n. slice_get c.deref.result.now n ≡ Some text)) c.as_bytes.ensures.text
    (same_place _ _ _ _ c.short.ensures (c.is_reason_at.ensures c.if-is_reason_at.true)))

pub returns-then-is_reason_at-clause-extends : goal.returns-then-is_reason_at-clause-extends
returns-then-is_reason_at-clause-extends c = same _ _ refl

pub returns-else-is_reason_at-clause-kept : goal.returns-else-is_reason_at-clause-kept
returns-else-is_reason_at-clause-kept c = added_places _ _ _ _ c.add_reason.ensures.added
