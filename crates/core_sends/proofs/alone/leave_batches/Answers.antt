use Rattle.std.proofs.Common.{◌≡◌, ℕ, suc, length, drop, refl, ap, sym, ◌∙◌, subst, arith, All}
use Rattle.std.specs.Prelude.{slice_get, true}
use Rattle.core_sends.specs.Batches.{numbers_of, not_sent, IsEndable}
use Rattle.core_sends.proofs.Turns.{drop_drop, placed_turn, marked_turn, same_option, all_drop, all_rest}
use Rattle.core_sends.proofs.alone.leave_batches.Goals as goal

pub loop-k-init : goal.loop-k-init
loop-k-init c =
    record {
      queue = refl;
      room = omega arith;
      places_capacity = refl;
      settled_capacity = refl;
      places_len = refl;
      placed = λ i. same_option (slice_get c.args.places.now.items i);
      settled_len = refl;
      marked = λ i. same_option (slice_get c.args.settled.now.items i);
    }

pub pass_served-requires-clause-endable : goal.pass_served-requires-clause-endable
pass_served-requires-clause-endable c =
    let l = c.loop-k in
    subst (λ n. All (IsEndable c.args.batches.now.items n) l.queue.items) (sym l.invariant.places_len)
    (subst (All (IsEndable c.args.batches.now.items (length c.args.places.now.items))) (sym l.invariant.queue) (all_drop (IsEndable c.args.batches.now.items (length c.args.places.now.items)) l.k c.args.queue.now.items c.requires.endable))

pub loop-k-preserved : goal.loop-k-preserved
loop-k-preserved c =
    let l = c.loop-k in
    let p = c.pass_served in
    record {
      queue = p.ensures.queue ∙ (ap (drop 1) l.invariant.queue ∙ drop_drop 1 l.k c.args.queue.now.items);
      room = omega (arith, p.ensures.room, l.invariant.room);
      places_capacity = p.ensures.places_capacity ∙ l.invariant.places_capacity;
      settled_capacity = p.ensures.settled_capacity ∙ l.invariant.settled_capacity;
      places_len = p.ensures.places_len ∙ l.invariant.places_len;
      placed = λ i. placed_turn (numbers_of c.args.batches.now.items) c.args.legs.now c.args.queue.now.items l.queue.items l.k (suc i) (slice_get c.args.places.now.items i) (slice_get l.places.items i) (slice_get p.new.places.items i)
          l.invariant.queue (l.invariant.placed i) (p.ensures.placed i);
      settled_len = p.ensures.settled_len ∙ l.invariant.settled_len;
      marked = λ i. marked_turn (numbers_of c.args.batches.now.items) c.args.legs.now c.args.queue.now.items l.queue.items l.k c.args.mark (suc i) (slice_get c.args.settled.now.items i) (slice_get l.settled.items i) (slice_get p.new.settled.items i)
          l.invariant.queue (l.invariant.marked i) (p.ensures.marked i);
    }

pub keep_unsent-requires-clause-rest : goal.keep_unsent-requires-clause-rest
keep_unsent-requires-clause-rest c =
    let l = c.loop-k in
    let end : l.k ≡ c.args.served = omega arith in
    subst (λ k. All (λ (unit : ℕ × ℕ). not_sent c.args.legs.now unit.1 ≡ true) (drop k l.queue.items)) (sym c.saturating_sub.ensures)
    (all_rest (λ (unit : ℕ × ℕ). not_sent c.args.legs.now unit.1 ≡ true) c.args.first c.args.served c.args.queue.now.items l.queue.items (l.invariant.queue ∙ ap (λ k. drop k c.args.queue.now.items) end) c.requires.rest)
