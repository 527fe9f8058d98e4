use Rattle.std.proofs.Common.{rules, ◌≡◌, ◌∙◌, ◌<◌, ◌||◌, ap, sym, subst, length, slice_get, Option, ℕ}
use Rattle.std.specs.Prelude.{remove, IfSome, ◌==◌}
use Rattle.std.proofs.lemmas.List.{length-map}
use Rattle.batcher.specs.Batches.{OpenBatch, Batches}
use Rattle.batcher.specs.Seen.{seen, batch_of, IsKept}
use Rattle.batcher.proofs.Leaving.{seen-remove, removed_kept, closed_at}
use Rattle.batcher.proofs.Batcher.close.Goals as goal

pub remove-key-requires : goal.remove-key-requires
remove-key-requires c =
    subst (λ (n : ℕ). c.args.at < n) (ap (λ (h : Batches). length h.batches) (sym c.self.view_is) ∙ length-map c.self.inside.batches batch_of) c.requires

pub invariant_of-self : goal.invariant_of-self
invariant_of-self c =
    subst (λ r. IsKept c.self.inside.batch_size r c.is_either-self-inside.result c.self.inside.newest (seen c.remove-key.new.self)) (sym c.less_ready-self-inside.ensures)
    (removed_kept c.self.inside.batch_size c.args.at c.self.inside.ready c.self.inside.newest c.self.inside.in_order c.is_either-self-inside.result c.is_ready-was_ready.result
    (seen c.self.inside.batches) (seen c.remove-key.new.self) (batch_of c.remove-key.result)
    (ap seen c.remove-key.ensures.entries ∙ seen-remove c.self.inside.batches c.args.at)
    (sym (closed_at c.self.inside.batches c.args.at c.remove-key.result c.remove-key.ensures.entry))
    c.is_ready-was_ready.ensures
    (c.is_either-self-inside.ensures ∙ ap (λ b. c.self.inside.in_order || b) (c.is_empty.ensures ∙ ap (λ (n : ℕ). n == 0) (sym (length-map c.remove-key.new.self batch_of))))
    c.self.invariant)

pub returns-clause-key : goal.returns-clause-key
returns-clause-key c =
    subst (λ (o : Option OpenBatch). IfSome o (λ batch. c.from_vec.result ≡ batch.key))
    (closed_at c.self.inside.batches c.args.at c.remove-key.result c.remove-key.ensures.entry ∙ ap (λ (h : Batches). slice_get h.batches c.args.at) c.self.view_is)
    (search rules)

pub returns-clause-numbers : goal.returns-clause-numbers
returns-clause-numbers c =
    subst (λ (o : Option OpenBatch). IfSome o (λ batch. c.into_numbers.result.items ≡ batch.numbers))
    (closed_at c.self.inside.batches c.args.at c.remove-key.result c.remove-key.ensures.entry ∙ ap (λ (h : Batches). slice_get h.batches c.args.at) c.self.view_is)
    (search rules)

pub returns-clause-batches : goal.returns-clause-batches
returns-clause-batches c =
    let left = ap seen c.remove-key.ensures.entries ∙ (seen-remove c.self.inside.batches c.args.at ∙ ap (λ (h : Batches). remove h.batches c.args.at) c.self.view_is) in
    λ i. record { batch_size = (c.self.view_is i).batch_size; batch_timeout = (c.self.view_is i).batch_timeout; batches = left i }
