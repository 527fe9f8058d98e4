use Rattle.std.proofs.Common.{◌≡◌, ◌∙◌, ◌||◌, ap, sym, subst, ℕ, Bool, None}
use Rattle.std.specs.Prelude.{IfSome, IfNone, IfOk, OnErr, ◌==◌, vec_capacity}
use Rattle.std.specs.Map.{lookup}
use Rattle.batcher.specs.Batches.{gathered}
use Rattle.batcher.specs.Seen.{seen, more_ready, IsKept, entries_of, HasRoom}
use Rattle.batcher.proofs.Gathers.{Entries, has_key}
use Rattle.batcher.proofs.open.OpenBatches.join.Goals as goal

pub invariant_of-self : goal.invariant_of-self
invariant_of-self c =
    c.join_in.ensures.room (vec_capacity c.self.inside.copy) (subst (λ o. IfSome o (HasRoom (vec_capacity c.self.inside.copy))) c.in-Some.is c.self.invariant)

pub returns-in-Some-clause-joined : goal.returns-in-Some-clause-joined
returns-in-Some-clause-joined c =
    subst (λ (es : Entries). IfOk c.join_in.result (λ r. IfSome r (λ len. (now : ℕ) → seen c.join_in.new.batches.entries ≡ gathered c.args.key.now c.args.n c.args.flush now (seen es))))
    (sym (sym c.self.view_is ∙ ap entries_of c.in-Some.is)) c.join_in.ensures.joined

pub returns-in-Some-clause-kept : goal.returns-in-Some-clause-kept
returns-in-Some-clause-kept c =
    subst
    (λ (es : Entries). IfOk c.join_in.result (λ r. IfSome r (λ len. (size ready newest : ℕ) (in_order : Bool) → IsKept size ready in_order newest (seen es)
    → IsKept size (more_ready ready (len == size || c.args.flush)) in_order newest (seen c.join_in.new.batches.entries))))
    (sym (sym c.self.view_is ∙ ap entries_of c.in-Some.is)) c.join_in.ensures.kept

pub returns-in-Some-clause-absent : goal.returns-in-Some-clause-absent
returns-in-Some-clause-absent c =
    subst (λ (es : Entries). IfOk c.join_in.result (λ r. IfNone r (lookup (has_key c.args.key.now) es ≡ None))) (sym (sym c.self.view_is ∙ ap entries_of c.in-Some.is)) c.join_in.ensures.absent

pub returns-in-Some-clause-left : goal.returns-in-Some-clause-left
returns-in-Some-clause-left c =
    subst (λ (es : Entries). IfOk c.join_in.result (λ r. IfNone r (c.join_in.new.batches.entries ≡ es))) (sym (sym c.self.view_is ∙ ap entries_of c.in-Some.is)) c.join_in.ensures.left

pub returns-in-Some-clause-unchanged : goal.returns-in-Some-clause-unchanged
returns-in-Some-clause-unchanged c =
    subst (λ (es : Entries). OnErr c.join_in.result (seen c.join_in.new.batches.entries ≡ seen es)) (sym (sym c.self.view_is ∙ ap entries_of c.in-Some.is)) c.join_in.ensures.unchanged
