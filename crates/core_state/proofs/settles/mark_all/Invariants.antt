use Rattle.std.proofs.Common.{◌≡◌, ℕ, suc, length, drop}
use Rattle.std.specs.Prelude.{option_map, slice_get, vec_capacity}
use Rattle.core_state.specs.Settles.{marked}
use Rattle.core_state.proofs.settles.mark_all.Given as goal

abbrev pub invariant-loop-no : goal.invariant-loop-no
invariant-loop-no l =
    record {
      marks : (i : ℕ) → option_map (marked (drop l.no-index l.numbers) l.mark (suc i)) (slice_get l.marks.items i) ≡ option_map (marked l.numbers l.mark (suc i)) (slice_get l.fn.marks.items i);
      len : length l.marks.items ≡ length l.fn.marks.items;
      capacity : vec_capacity l.marks ≡ vec_capacity l.fn.marks;
    }
