use Rattle.std.proofs.Common.{◌≡◌, ℕ, suc, length, drop}
use Rattle.std.specs.Prelude.{option_map, slice_get, vec_capacity}
use Rattle.pipe_model.specs.Flow.{put_in_batch}
use Rattle.core_batches.proofs.batches.join_all.Given as goal

abbrev pub invariant-loop-no : goal.invariant-loop-no
invariant-loop-no l =
    record {
      placed : (i : ℕ) → option_map (put_in_batch (drop l.no-index l.numbers) l.stage l.batch.0 (suc i)) (slice_get l.places.items i) ≡ option_map (put_in_batch l.numbers l.stage l.batch.0 (suc i)) (slice_get l.fn.places.items i);
      len : length l.places.items ≡ length l.fn.places.items;
      capacity : vec_capacity l.places ≡ vec_capacity l.fn.places;
    }
