-- What the entries of the map say.
use Rattle.std.specs.Prelude.{◌≡◌, ℕ, suc, ◌+◌, ◌-◌, ◌^◌, ◌<◌, ◌≤◌, ◌==◌, ◌||◌, ◌&&◌, if◌then◌else◌, nat_lt, nat_le, Bool, true, false, List, [], ◌∷◌, ◌++◌, length, map, All, Vec, Option, None, Some}
use Rattle.std.specs.Global.{Global}
use Rattle.std.specs.Map.{keys_of}
use Rattle.lru.specs.LruCache.{LruCache}
use Rattle.batcher.specs.declared.messages.Messages.{Messages}
use Rattle.batcher.specs.Batches.{OpenBatch}

-- the open batch of these messages
abbrev pub batch_in : (key : List ℕ) → Messages → OpenBatch
batch_in key messages = record { key = key; numbers = messages.numbers.items; flush = messages.flush; opened = messages.opened }

-- the open batch of one entry
abbrev pub batch_of : Vec ℕ Global × Messages → OpenBatch
batch_of entry = batch_in entry.0.items entry.1

-- the open batches of all entries, in their order
abbrev pub seen : List (Vec ℕ Global × Messages) → List OpenBatch
seen entries = map batch_of entries

-- the batch is full or ends in flush mode
abbrev pub is_ready : (batch_size : ℕ) → OpenBatch → Bool
is_ready size batch = length batch.numbers == size || batch.flush

-- how many of them are ready
abbrev pub ready_in : (batch_size : ℕ) → List OpenBatch → ℕ
ready_in size [] = 0
ready_in size (batch ∷ batches) = if is_ready size batch then suc (ready_in size batches) else ready_in size batches

-- a count of them with one more, where the largest number stands for a count that is not known
abbrev pub more_ready : (ready : ℕ) → (is_ready : Bool) → ℕ
more_ready ready is = if is && nat_lt ready (2 ^ 64 - 1) then ready + 1 else ready

-- and with one less
abbrev pub less_ready : (ready : ℕ) → (was_ready : Bool) → ℕ
less_ready ready was = if was && nat_lt ready (2 ^ 64 - 1) then ready - 1 else ready

-- the ticks do not fall, from one tick to another
abbrev pub Rise : (from to : ℕ) → List ℕ → Type 0
Rise from to [] = from ≤ to
Rise from to (tick ∷ ticks) = (from ≤ tick) × Rise tick to ticks

-- the ticks at which they were opened
abbrev pub ticks_of : List OpenBatch → List ℕ
ticks_of batches = map (λ batch. batch.opened) batches

-- each batch has a message, no more are ready than the count says, and where the mark is set they were opened in the order
-- of their ticks, none after the newest
pub record IsKept (batch_size ready : ℕ) (in_order : Bool) (newest : ℕ) (batches : List OpenBatch) : Type 0 where
  pub begun : All (λ batch. 0 < length batch.numbers) batches
  pub within : ready < 2 ^ 64 - 1 → ready_in batch_size batches ≤ ready
  pub rise : in_order ≡ true → Rise 0 newest (ticks_of batches)

-- the batch that was opened first has been open for the timeout
abbrev pub first_has_passed : (batch_timeout now : ℕ) → List OpenBatch → Bool
first_has_passed timeout now [] = false
first_has_passed timeout now (batch ∷ batches) = nat_le (batch.opened + timeout) now

-- the entries of the map, if there is one
abbrev pub entries_of : Option (LruCache (Vec ℕ Global) Messages) → List (Vec ℕ Global × Messages)
entries_of None = []
entries_of (Some batches) = batches.entries

-- the bytes of an entry's key
abbrev pub key_in : Vec ℕ Global × Messages → List ℕ
key_in entry = entry.0.items

-- there is room for a copy of each key, and the map drops no batch by itself
pub record HasRoom (capacity : ℕ) (batches : LruCache (Vec ℕ Global) Messages) : Type 0 where
  pub keys : All (λ key. length key.items ≤ capacity) (keys_of batches.entries)
  pub wide : batches.cap ≡ 2 ^ 64 - 1

-- the last number of the last batch is taken out, which then does not end in flush mode
pub record PopsNumber (old new : List (Vec ℕ Global × Messages)) (number : ℕ) : Type 0 where
  pub front : List (Vec ℕ Global × Messages)
  pub key : Vec ℕ Global
  pub before : Messages
  pub after : Messages
  pub was : old ≡ front ++ (key, before) ∷ []
  pub is : new ≡ front ++ (key, after) ∷ []
  pub numbers : before.numbers.items ≡ after.numbers.items ++ number ∷ []
  pub opened : after.opened ≡ before.opened
  pub flush : after.flush ≡ false
