use Rattle.std.proofs.Common.{◌≡◌, ℕ, length}
use Rattle.std.specs.Prelude.{option_map, slice_get, vec_capacity}
use Rattle.core_tables.proofs.Turns.{part}
use Rattle.core_deaths.specs.Reasons.{reason_at}
use Rattle.core_losses.specs.Losses.{incarnation_at, loss_at, place_lost, marked_to}
use Rattle.core_losses.proofs.messages.lose_messages.Given as goal

abbrev pub invariant-loop-at : goal.invariant-loop-at
invariant-loop-at l =
    record {
      places : (i : ℕ) → slice_get l.places.items i ≡ option_map (part l.at (λ k. place_lost (reason_at l.killed) (incarnation_at l.rows)) i) (slice_get l.fn.places.items i);
      marks : (i : ℕ) → slice_get l.marks.items i ≡ option_map (part l.at (λ k. marked_to (loss_at (reason_at l.killed) (incarnation_at l.rows) (slice_get l.fn.places.items k)) l.mark) i) (slice_get l.fn.marks.items i);
      places_len : length l.places.items ≡ length l.fn.places.items;
      marks_len : length l.marks.items ≡ length l.fn.marks.items;
      places_capacity : vec_capacity l.places ≡ vec_capacity l.fn.places;
      marks_capacity : vec_capacity l.marks ≡ vec_capacity l.fn.marks;
    }
