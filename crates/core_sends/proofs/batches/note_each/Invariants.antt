use Rattle.std.proofs.Common.{◌≡◌, ℕ, suc, length, drop, ◌++◌, true}
use Rattle.std.specs.Prelude.{option_map}
use Rattle.pipe_model.specs.Flow.{is_empty, subs_of}
use Rattle.core_sends.specs.Batches.{subs_at, closed_at}
use Rattle.core_sends.proofs.batches.note_each.Given as goal

abbrev pub invariant-loop-sent : goal.invariant-loop-sent
invariant-loop-sent l =
    record {
      noted : (i : ℕ) → option_map (λ subs. subs ++ subs_of (drop l.sent-index l.units) (suc i)) (subs_at l.batches.items i) ≡ option_map (λ subs. subs ++ subs_of l.units (suc i)) (subs_at l.fn.batches.items i);
      others : (i : ℕ) → is_empty (subs_of l.units (suc i)) ≡ true → subs_at l.batches.items i ≡ subs_at l.fn.batches.items i;
      closed : (i : ℕ) → closed_at l.batches.items i ≡ closed_at l.fn.batches.items i;
      len : length l.batches.items ≡ length l.fn.batches.items;
    }
