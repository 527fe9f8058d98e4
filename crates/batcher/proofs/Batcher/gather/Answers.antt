use Rattle.std.proofs.Common.{◌≡◌, ◌∙◌, ◌||◌, ◌∷◌, ◌++◌, [], ap, sym, subst, ℕ, Bool, None, Option}
use Rattle.std.specs.Prelude.{IfSome, IfNone, ◌&&◌, ◌==◌, nat_le}
use Rattle.std.specs.Map.{lookup}
use Rattle.batcher.specs.Batches.{Batches, OpenBatch, gathered}
use Rattle.batcher.specs.Seen.{seen, more_ready, IsKept}
use Rattle.batcher.proofs.Gathers.{Entries, has_key, begun_kept, kept_as, opened_seen, one_in, on_err}
use Rattle.batcher.proofs.Batcher.gather.Goals as goal

-- memory was wanting for a message that joins
pub invariant_of-self : goal.invariant_of-self
invariant_of-self c = subst (IsKept c.self.inside.batch_size c.self.inside.ready c.self.inside.in_order c.self.inside.newest) (sym c.in_err-len.ensures.unchanged) c.self.invariant

pub begin-requires : goal.begin-requires
begin-requires c =
    let left = subst (λ (o : Option ℕ). IfNone o (c.join.new.self ≡ c.self.inside.batches)) c.in-None.is c.in_ok-len.ensures.left in
    let absent = subst (λ (o : Option ℕ). IfNone o (lookup (has_key c.args.key.now) c.self.inside.batches ≡ None)) c.in-None.is c.in_ok-len.ensures.absent in
    subst (λ (es : Entries). lookup (has_key c.args.key.now) es ≡ None) (sym left) absent

-- and for one that opens a batch
pub invariant_of-self-in_err-begin-in-None : goal.invariant_of-self-in_err-begin-in-None
invariant_of-self-in_err-begin-in-None c =
    let left = subst (λ (o : Option ℕ). IfNone o (c.join.new.self ≡ c.self.inside.batches)) c.in-None.is c.in_ok-len.ensures.left in
    subst (λ (es : Entries). IsKept c.self.inside.batch_size c.self.inside.ready c.self.inside.in_order c.self.inside.newest (seen es)) (sym (c.in_err-begin-in-None.ensures.unchanged ∙ left)) c.self.invariant

-- a message opens a batch
pub invariant_of-self-in-None : goal.invariant_of-self-in-None
invariant_of-self-in-None c =
    let left = subst (λ (o : Option ℕ). IfNone o (c.join.new.self ≡ c.self.inside.batches)) c.in-None.is c.in_ok-len.ensures.left in
    kept_as c.self.inside.batch_size _ c.more_ready-self-inside.result c.args.now _ c.is_both-self-inside.result _ (seen c.begin.new.self)
    (sym (c.more_ready-self-inside.ensures ∙ ap (more_ready c.self.inside.ready) c.is_either-is_ready.ensures))
    (sym c.is_both-self-inside.ensures)
    (ap (λ (es : Entries). seen es ++ one_in c.args.key.now c.args.no.0 c.args.flush c.args.now ∷ []) (sym left) ∙ sym c.in_ok-begin-in-None.ensures.begun)
    (begun_kept c.self.inside.batch_size c.self.inside.ready c.self.inside.newest c.args.no.0 c.args.now c.self.inside.in_order c.args.flush c.args.key.now (seen c.self.inside.batches) c.self.invariant)

pub returns-in-None-clause-gathered : goal.returns-in-None-clause-gathered
returns-in-None-clause-gathered c =
    let left = subst (λ (o : Option ℕ). IfNone o (c.join.new.self ≡ c.self.inside.batches)) c.in-None.is c.in_ok-len.ensures.left in
    let absent = subst (λ (o : Option ℕ). IfNone o (lookup (has_key c.args.key.now) c.self.inside.batches ≡ None)) c.in-None.is c.in_ok-len.ensures.absent in
    let all =
    c.in_ok-begin-in-None.ensures.begun
    ∙ (ap (λ (es : Entries). seen es ++ one_in c.args.key.now c.args.no.0 c.args.flush c.args.now ∷ []) left
    ∙ (opened_seen c.args.key.now c.args.no.0 c.args.flush c.args.now c.self.inside.batches absent
    ∙ ap (λ (h : Batches). gathered c.args.key.now c.args.no.0 c.args.flush c.args.now h.batches) c.self.view_is)) in
    λ i. record { batch_size = (c.self.view_is i).batch_size; batch_timeout = (c.self.view_is i).batch_timeout; batches = all i }

-- a message joins one
pub invariant_of-self-2 : goal.invariant_of-self-2
invariant_of-self-2 c =
    let more = subst
    (λ (o : Option ℕ). IfSome o (λ len. (size ready newest : ℕ) (in_order : Bool) → IsKept size ready in_order newest (seen c.self.inside.batches)
    → IsKept size (more_ready ready (len == size || c.args.flush)) in_order newest (seen c.join.new.self)))
    c.in-Some.is c.in_ok-len.ensures.kept in
    subst (λ r. IsKept c.self.inside.batch_size r c.self.inside.in_order c.self.inside.newest (seen c.join.new.self))
    (sym (c.more_ready-self-inside-2.ensures ∙ ap (more_ready c.self.inside.ready) c.is_either-is_ready-2.ensures))
    (more c.self.inside.batch_size c.self.inside.ready c.self.inside.newest c.self.inside.in_order c.self.invariant)
