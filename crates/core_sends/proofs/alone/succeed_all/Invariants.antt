use Rattle.std.proofs.Common.{◌≡◌, ℕ, suc, length, drop}
use Rattle.std.specs.Prelude.{option_map, slice_get, vec_capacity}
use Rattle.core_sends.specs.Batches.{succeeded}
use Rattle.core_sends.proofs.alone.succeed_all.Given as goal

abbrev pub invariant-loop-no : goal.invariant-loop-no
invariant-loop-no l =
    record {
      placed : (i : ℕ) → option_map (succeeded (drop l.no-index l.numbers) (suc i)) (slice_get l.places.items i) ≡ option_map (succeeded l.numbers (suc i)) (slice_get l.fn.places.items i);
      len : length l.places.items ≡ length l.fn.places.items;
      capacity : vec_capacity l.places ≡ vec_capacity l.fn.places;
    }
