-- What a batch that is settled makes of the places of its messages.
use Rattle.std.specs.List.{AllPairs}
use Rattle.std.specs.Prelude.{◌≢◌, ◌≤◌, All, ℕ, ◌+◌, ◌-◌, slice_get, ◌==◌, if◌then◌else◌, List, [], ◌∷◌, Option, Some, None, unwrap_or}
use Rattle.pipe_types.specs.declared.numbers.StageNo.{StageNo}
use Rattle.pipe_types.specs.declared.message.Place.{Place}
use Rattle.pipe_types.specs.declared.message.Place.TheVariants.{Acked}
use Rattle.pipe_types.specs.declared.message.Outcome.TheVariants.{Successful}
use Rattle.pipe_model.specs.Flow.{among}
use Rattle.message_ack.specs.declared.legs.Settled.{Settled}
use Rattle.message_ack.specs.Ends.{place_in}
use Rattle.pipe_journal.specs.declared.acked.AckRow.{AckRow}
use Rattle.core_laws.specs.Acked.{ack_row}

-- where a settled batch leaves the message at that place of it
abbrev pub end_at : Settled → ℕ → Place
end_at settled k = unwrap_or (place_in settled k) (Acked Successful)

-- the first message of these ends as that at place k, and those behind it as those behind that
abbrev pub ended_from : (ℕ → Place) → (k : ℕ) → List ℕ → ℕ → Place → Place
ended_from ends k [] n place = place
ended_from ends k (m ∷ numbers) n place = if m == n then ends k else ended_from ends (k + 1) numbers n place

-- these messages have the mark
abbrev pub marked : List ℕ → (mark : ℕ) → ℕ → ℕ → ℕ
marked numbers mark n old = if among numbers n then mark else old

-- where the messages of a batch stand that ended so, or goes on
abbrev pub ended_by : Option Settled → List ℕ → ℕ → Place → Place
ended_by None numbers n place = place
ended_by (Some settled) numbers n place = ended_from (end_at settled) 0 numbers n place

abbrev pub marked_by : Option Settled → List ℕ → (mark : ℕ) → ℕ → ℕ → ℕ
marked_by None numbers mark n old = old
marked_by (Some settled) numbers mark n old = marked numbers mark n old

-- the row of the acknowledged message with this number, where it is acknowledged
abbrev pub noted : List Place → List StageNo → (at : ℕ) → ℕ → Option AckRow
noted places producers at n = ack_row (slice_get places (n - 1)) (slice_get producers (n - 1)) at n

-- different numbers from 1 to the count
pub record AreNumbers (count : ℕ) (numbers : List ℕ) : Type 0 where
  pub within : All (λ n. (1 ≤ n) × (n ≤ count)) numbers
  pub apart : AllPairs (λ a b. a ≢ b) numbers
