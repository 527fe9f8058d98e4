use Rattle.std.proofs.Common.{◌≡◌, ℕ, suc, length, drop}
use Rattle.std.specs.Prelude.{option_map, slice_get, vec_capacity}
use Rattle.core_state.specs.Settles.{end_at, ended_from}
use Rattle.core_state.proofs.settles.settle_all.Given as goal

abbrev pub invariant-loop-k : goal.invariant-loop-k
invariant-loop-k l =
    record {
      placed : (i : ℕ) → option_map (ended_from (end_at l.settled) l.k (drop l.k l.numbers) (suc i)) (slice_get l.places.items i) ≡ option_map (ended_from (end_at l.settled) 0 l.numbers (suc i)) (slice_get l.fn.places.items i);
      len : length l.places.items ≡ length l.fn.places.items;
      capacity : vec_capacity l.places ≡ vec_capacity l.fn.places;
    }
