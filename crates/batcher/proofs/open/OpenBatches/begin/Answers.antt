use Rattle.std.proofs.Common.{rules, ◌≡◌, ◌∙◌, ◌≤◌, ◌^◌, ◌-◌, ◌++◌, ◌∷◌, [], ap, sym, subst, refl, length, Some, None, Vec, Global, ℕ, arith}
use Rattle.std.specs.Prelude.{IfSome, OnOk, OnErr, vec_capacity}
use Rattle.std.specs.Map.{lookup}
use Rattle.lru.specs.LruCache.{LruCache}
use Rattle.batcher.specs.declared.messages.Messages.{Messages}
use Rattle.batcher.specs.Seen.{seen, entries_of, HasRoom}
use Rattle.batcher.proofs.Gathers.{Entries, has_key, one_in}
use Rattle.batcher.proofs.Places.{room_more, room_new}
use Rattle.batcher.proofs.open.OpenBatches.begin.Goals as goal

-- there is more room than before
pub invariant_of-self : goal.invariant_of-self
invariant_of-self c = room_more (vec_capacity c.self.inside.copy) (vec_capacity c.reserve.new.self) c.self.inside.batches (omega arith) c.self.invariant

pub begin_in-requires-clause-absent : goal.begin_in-requires-clause-absent
begin_in-requires-clause-absent c = subst (λ (es : Entries). lookup (has_key c.args.key.now) es ≡ None) (sym c.self.view_is ∙ ap entries_of c.in-Some.is) c.requires

pub begin_in-requires-clause-wide : goal.begin_in-requires-clause-wide
begin_in-requires-clause-wide c = (subst (λ o. IfSome o (HasRoom (vec_capacity c.self.inside.copy))) c.in-Some.is c.self.invariant).wide

pub invariant_of-self-in-Some : goal.invariant_of-self-in-Some
invariant_of-self-in-Some c =
    c.begin_in.ensures.room (vec_capacity c.reserve.new.self) (omega (arith, c.in_ok-reserve.ensures.ok))
    (room_more (vec_capacity c.self.inside.copy) (vec_capacity c.reserve.new.self) (Some c.in-Some.batches) (omega arith)
    (subst (λ o. IfSome o (HasRoom (vec_capacity c.self.inside.copy))) c.in-Some.is c.self.invariant))

pub invariant_of-self-in_err-batches-in-None : goal.invariant_of-self-in_err-batches-in-None
invariant_of-self-in_err-batches-in-None c = room_more (vec_capacity c.self.inside.copy) (vec_capacity c.reserve.new.self) c.self.inside.batches (omega arith) c.self.invariant

pub begin_in-requires-in-None-clause-absent : goal.begin_in-requires-in-None-clause-absent
begin_in-requires-in-None-clause-absent c = subst (λ (m : LruCache (Vec ℕ Global) Messages). lookup (has_key c.args.key.now) m.entries ≡ None) (sym c.in_ok-batches-in-None.ensures) refl

pub begin_in-requires-in-None-clause-wide : goal.begin_in-requires-in-None-clause-wide
begin_in-requires-in-None-clause-wide c = ap (λ (m : LruCache (Vec ℕ Global) Messages). m.cap) c.in_ok-batches-in-None.ensures

pub invariant_of-self-in_err-begin_in-in-None : goal.invariant_of-self-in_err-begin_in-in-None
invariant_of-self-in_err-begin_in-in-None c = room_more (vec_capacity c.self.inside.copy) (vec_capacity c.reserve.new.self) c.self.inside.batches (omega arith) c.self.invariant

pub invariant_of-self-in-None : goal.invariant_of-self-in-None
invariant_of-self-in-None c = c.begin_in-in-None.ensures.room (vec_capacity c.reserve.new.self) (omega (arith, c.in_ok-reserve.ensures.ok)) (room_new (vec_capacity c.reserve.new.self) c.in_ok-batches-in-None.batches c.in_ok-batches-in-None.ensures)

pub returns-in-Some-clause-begun : goal.returns-in-Some-clause-begun
returns-in-Some-clause-begun c =
    subst (λ (es : Entries). OnOk c.begin_in.result (seen c.begin_in.new.batches.entries ≡ seen es ++ one_in c.args.key.now c.args.n c.args.flush c.args.now ∷ []))
    (sym (sym c.self.view_is ∙ ap entries_of c.in-Some.is)) c.begin_in.ensures.begun

pub returns-in-Some-clause-unchanged : goal.returns-in-Some-clause-unchanged
returns-in-Some-clause-unchanged c =
    subst (λ (es : Entries). OnErr c.begin_in.result (c.begin_in.new.batches.entries ≡ es)) (sym (sym c.self.view_is ∙ ap entries_of c.in-Some.is)) c.begin_in.ensures.unchanged

pub returns-in_ok-begin_in-in-None-clause-begun : goal.returns-in_ok-begin_in-in-None-clause-begun
returns-in_ok-begin_in-in-None-clause-begun c =
    subst (λ (es : Entries). seen c.begin_in-in-None.new.batches.entries ≡ seen es ++ one_in c.args.key.now c.args.n c.args.flush c.args.now ∷ [])
    (ap (λ (m : LruCache (Vec ℕ Global) Messages). m.entries) c.in_ok-batches-in-None.ensures ∙ sym (sym c.self.view_is ∙ ap entries_of c.in-None.is)) c.in_ok-begin_in-in-None.ensures.begun
