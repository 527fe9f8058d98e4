use Rattle.std.proofs.Common.{◌≡◌, ℕ, suc, length, map}
use Rattle.std.specs.Prelude.{option_map, slice_get, vec_capacity}
use Rattle.core_sends.specs.Losing.{marked, between}
use Rattle.core_sends.proofs.losing.mark_all.Given as goal

abbrev pub invariant-loop-k : goal.invariant-loop-k
invariant-loop-k l =
    record {
      marked : (i : ℕ) → option_map (marked (map {A = ℕ × ℕ} {B = ℕ} (λ unit. unit.1) (between l.k l.to l.queue.items)) l.mark (suc i)) (slice_get l.settled.items i)
          ≡ option_map (marked (map {A = ℕ × ℕ} {B = ℕ} (λ unit. unit.1) (between l.fn.from l.to l.queue.items)) l.mark (suc i)) (slice_get l.fn.settled.items i);
      len : length l.settled.items ≡ length l.fn.settled.items;
      capacity : vec_capacity l.settled ≡ vec_capacity l.fn.settled;
    }
