-- What a fetch of a merge says.
use Rattle.std.specs.Prelude.{◌≡◌, ◌≤◌, ◌⊎◌, ◌+◌, ◌^◌, ℕ, length, Option, Some, None}
use Rattle.pipe_edges.specs.declared.source.ByteSource.{Ghosts as SourceOf}
use Rattle.line_merge.specs.declared.stream.Stream.{Stream}
use Rattle.pipe_edges.specs.declared.reading.Fetched.{Fetched}
use Rattle.pipe_edges.specs.declared.reading.Fetched.TheVariants as fetched
use Rattle.line_merge.specs.Streams.{Both, There}
use Rattle.line_merge.specs.Tries.{HasNone, HasWaited, HasEnded, HasFailed, HasTooLong}
use Rattle.line_merge.specs.declared.item.MergeItem.{MergeItem}
use Rattle.line_merge.specs.declared.item.MergeItem.TheVariants as item
use Rattle.line_merge.specs.declared.item.MergeEnd.{MergeEnd}
use Rattle.line_merge.specs.declared.item.MergeEnd.TheVariants.{End, Fault, TooLong}

-- the answer that names an end
abbrev pub answer_to : MergeEnd → Fetched
answer_to End = fetched.End
answer_to (Fault place) = fetched.Fault
answer_to (TooLong place) = fetched.TooLong

-- the first answer of its kind: exactly one line; or nothing, where some source is open and the waits of each open one rose; or
-- each has ended; or some source failed now; or some source has a line that is too long
abbrev pub FetchHasCause : {B : Type 0} → SourceOf B → (old new : ℕ → Option (Stream B)) → Fetched → Type 0
FetchHasCause source old new (fetched.Records records) = length records ≡ 1
FetchHasCause source old new fetched.NotYet = ((k : ℕ) → Both (HasNone source) (old k) (new k)) × ((k : ℕ) × There (HasWaited source) (old k) (new k))
FetchHasCause source old new fetched.End = (k : ℕ) → Both (λ a b. HasEnded b) (old k) (new k)
FetchHasCause source old new fetched.Fault = (k : ℕ) × There (HasFailed source) (old k) (new k)
FetchHasCause source old new fetched.TooLong = (k : ℕ) × There HasTooLong (old k) (new k)

-- together they are greater than before, or a counter is full
abbrev pub RoseTogether : ℕ → ℕ → Type 0
RoseTogether before now = (before + 1 ≤ now) ⊎ (2 ^ 64 ≤ now + 1)

-- where nothing is ready the waits of all sources together rose
abbrev pub RisesIfNotYet : MergeItem → (before now : ℕ) → Type 0
RisesIfNotYet item.NotYet before now = RoseTogether before now
RisesIfNotYet _ before now = Unit {0}

abbrev pub FetchRises : Fetched → (before now : ℕ) → Type 0
FetchRises fetched.NotYet before now = RoseTogether before now
FetchRises _ before now = Unit {0}

-- an end is known for good
abbrev pub Remembers : Option MergeEnd → Fetched → Type 0
Remembers now fetched.End = now ≡ Some End
Remembers now fetched.Fault = (k : ℕ) × (now ≡ Some (Fault k))
Remembers now fetched.TooLong = (k : ℕ) × (now ≡ Some (TooLong k))
Remembers now _ = now ≡ None
