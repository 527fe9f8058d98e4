use Rattle.std.proofs.Common.{◌≡◌, ℕ, suc, length, drop, []}
use Rattle.std.specs.Prelude.{option_map, if◌then◌else◌}
use Rattle.pipe_model.specs.Flow.{is_empty, subs_of}
use Rattle.core_sends.specs.Batches.{subs_at, closed_at}
use Rattle.core_sends.proofs.batches.clear_all.Given as goal

abbrev pub invariant-loop-sent : goal.invariant-loop-sent
invariant-loop-sent l =
    record {
      cleared : (i : ℕ) → (if is_empty (subs_of (drop l.sent-index l.units) (suc i)) then subs_at l.batches.items i else option_map (λ subs. []) (subs_at l.batches.items i))
          ≡ (if is_empty (subs_of l.units (suc i)) then subs_at l.fn.batches.items i else option_map (λ subs. []) (subs_at l.fn.batches.items i));
      closed : (i : ℕ) → closed_at l.batches.items i ≡ closed_at l.fn.batches.items i;
      len : length l.batches.items ≡ length l.fn.batches.items;
    }
