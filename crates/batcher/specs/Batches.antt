-- Open batches, what may join them, and which may close.
use Rattle.std.specs.Prelude.{◌≡◌, ℕ, ◌+◌, ◌-◌, Bool, false, if◌then◌else◌, ◌==◌, ◌&&◌, ◌||◌, not, nat_lt, nat_le, List, [], ◌∷◌, ◌++◌, length, take, bytes_eq, Option, Some, None, slice_get, slice_index_or}
use Rattle.std.specs.List.{flat_map}
use Rattle.pipe_types.specs.declared.message.Trigger.{Trigger}
use Rattle.pipe_types.specs.declared.message.Trigger.TheVariants.{Size, Flush, Timeout}
use Rattle.batcher.specs.declared.Closable.{Closable}

-- the messages of one key: their numbers in the order in which they were gathered, whether the last of them has flush
-- mode, and the tick at which the first was gathered
pub record OpenBatch : Type 0 where
  pub key : List ℕ
  pub numbers : List ℕ
  pub flush : Bool
  pub opened : ℕ

-- a batcher: its limits, and its open batches in the order in which they were opened
pub record Batches : Type 0 where
  pub batch_size : ℕ
  pub batch_timeout : ℕ
  pub batches : List OpenBatch

-- the message that stands first in the batch, or 0
abbrev pub first_of : OpenBatch → ℕ
first_of batch = slice_index_or batch.numbers 0 0

-- one more message fits in the batch: it is short of the size, and its last message has no flush mode
abbrev pub takes_more : (batch_size : ℕ) → OpenBatch → Bool
takes_more size batch = nat_lt (length batch.numbers) size && not batch.flush

-- a message of the key fits: in the open batch of its key, or in one of its own
abbrev pub fits : (batch_size : ℕ) → (key : List ℕ) → List OpenBatch → Bool
fits size key [] = nat_lt 0 size
fits size key (batch ∷ batches) = if bytes_eq key batch.key then takes_more size batch else fits size key batches

-- the batch with one more message
abbrev pub joined : OpenBatch → (no : ℕ) → (flush : Bool) → OpenBatch
joined batch n flush = record { key = batch.key; numbers = batch.numbers ++ n ∷ []; flush = flush; opened = batch.opened }

-- the message joins the open batch of its key, or opens one behind all others
abbrev pub gathered : (key : List ℕ) → (no : ℕ) → (flush : Bool) → (now : ℕ) → List OpenBatch → List OpenBatch
gathered key n flush now [] = record { key = key; numbers = n ∷ []; flush = flush; opened = now } ∷ []
gathered key n flush now (batch ∷ batches) =
    if bytes_eq key batch.key then joined batch n flush ∷ batches else batch ∷ gathered key n flush now batches

-- the first trigger that holds of an open batch: size, then flush, then timeout
abbrev pub trigger_of : Batches → (now : ℕ) → (dry : Bool) → OpenBatch → Option Trigger
trigger_of held now dry batch =
    if length batch.numbers == held.batch_size
    then Some Size
    else (if batch.flush || dry
    then Some Flush
    else (if nat_le (batch.opened + held.batch_timeout) now then Some Timeout else None))

-- this is an open batch, by its place and its first message, with the trigger that holds of it
pub record IsClosable (held : Batches) (now : ℕ) (dry : Bool) (closable : Closable) : Type 0 where
  pub batch : OpenBatch
  pub there : slice_get held.batches closable.at ≡ Some batch
  pub first : closable.first.0 ≡ first_of batch
  pub trigger : trigger_of held now dry batch ≡ Some closable.trigger

-- the numbers of all messages in these batches
abbrev pub numbers_in : List OpenBatch → List ℕ
numbers_in batches = flat_map (λ batch. batch.numbers) batches

-- what is left of a batch whose last message is given out: a batch of the others, with no flush mode, or no batch
abbrev pub left_of : OpenBatch → List OpenBatch
left_of batch =
    if nat_lt 1 (length batch.numbers)
    then record { key = batch.key; numbers = take (length batch.numbers - 1) batch.numbers; flush = false; opened = batch.opened } ∷ []
    else []
