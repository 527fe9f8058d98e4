use Rattle.std.proofs.Common.{◌≡◌, ℕ, suc, length, map}
use Rattle.std.specs.Prelude.{option_map, slice_get, vec_capacity}
use Rattle.core_sends.specs.Losing.{lost_over_size, between}
use Rattle.core_sends.proofs.losing.lose_all.Given as goal

abbrev pub invariant-loop-k : goal.invariant-loop-k
invariant-loop-k l =
    record {
      placed : (i : ℕ) → option_map (lost_over_size (map {A = ℕ × ℕ} {B = ℕ} (λ unit. unit.1) (between l.k l.to l.queue.items)) l.stage (suc i)) (slice_get l.places.items i)
          ≡ option_map (lost_over_size (map {A = ℕ × ℕ} {B = ℕ} (λ unit. unit.1) (between l.fn.from l.to l.queue.items)) l.stage (suc i)) (slice_get l.fn.places.items i);
      len : length l.places.items ≡ length l.fn.places.items;
      capacity : vec_capacity l.places ≡ vec_capacity l.fn.places;
    }
