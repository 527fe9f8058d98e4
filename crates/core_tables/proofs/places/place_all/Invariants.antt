use Rattle.std.proofs.Common.{◌≡◌, ℕ, suc, length, [], drop, option_map, slice_get}
use Rattle.std.specs.Prelude.{vec_capacity}
use Rattle.pipe_model.specs.Flow.{dispatched}
use Rattle.core_tables.proofs.places.place_all.Given as goal

abbrev pub invariant-loop-sent : goal.invariant-loop-sent
invariant-loop-sent l =
    record {
      placed : (i : ℕ) → option_map (dispatched (drop l.sent-index l.units) [] [] l.stage (suc i)) (slice_get l.places.items i) ≡ option_map (dispatched l.units [] [] l.stage (suc i)) (slice_get l.fn.places.items i);
      len : length l.places.items ≡ length l.fn.places.items;
      capacity : vec_capacity l.places ≡ vec_capacity l.fn.places;
    }
