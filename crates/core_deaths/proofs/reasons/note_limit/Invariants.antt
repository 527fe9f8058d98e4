use Rattle.std.proofs.Common.{◌≡◌, ℕ}
use Rattle.std.specs.Prelude.{option_map, slice_get}
use Rattle.core_state.specs.Readings.{lives_by}
use Rattle.core_deaths.specs.Passes.{limit_if}
use Rattle.core_tables.proofs.Turns.{part}
use Rattle.core_deaths.proofs.reasons.note_limit.Given as goal

abbrev pub invariant-loop-at : goal.invariant-loop-at
invariant-loop-at l =
    record {
      rows : (i : ℕ) → slice_get l.killed i ≡ option_map (part l.at (λ k _. limit_if (lives_by (slice_get l.rows k) k)) i) (slice_get l.fn.killed i);
    }
