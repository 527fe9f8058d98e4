-- What a round over the sources does to each.
use Rattle.std.specs.Prelude.{◌≡◌, ◌≤◌, ◌<◌, ◌⊎◌, ℕ, Bool, true, false, if◌then◌else◌, nat_lt, nat_le, ◌&&◌, ◌||◌, List, All, Option, Some, None}
use Rattle.pipe_types.specs.Counts.{Rose}
use Rattle.pipe_edges.specs.declared.source.ByteSource.{Ghosts as SourceOf}
use Rattle.pipe_edges.specs.Paces.{unpaced}
use Rattle.pipe_edges.specs.Texts.{IsLine}
use Rattle.pipe_edges.specs.LineSource.{line_source, line_end_of}
use Rattle.line_merge.specs.declared.stream.Stream.{Stream}
use Rattle.pipe_edges.specs.declared.reading.LineEnd.TheVariants.{End, Fault, TooLong}
use Rattle.source_lines.specs.Seen.{line_seen}
use Rattle.source_lines.specs.Read.{ReadsOn}
use Rattle.line_merge.specs.Streams.{Both, There, lines_of, is_open_in}
use Rattle.line_merge.specs.declared.item.MergeItem.{MergeItem}
use Rattle.line_merge.specs.declared.item.MergeItem.TheVariants as item
use Rattle.line_merge.specs.Taken.{Taken}
use Rattle.line_merge.specs.Taken as taken

-- these lines of the source follow those that were read before, its waits do not fall, and no pace comes to it
pub record Gives {B : Type 0} (source : SourceOf B) (lines : List (List ℕ)) (old new : Stream B) : Type 0 where
  pub each_is_a_line : All IsLine lines
  pub waits_stay : source.waits (line_source (lines_of old)) ≤ source.waits (line_source (lines_of new))
  pub reads : ReadsOn lines (line_seen source (lines_of old)) (line_seen source (lines_of new))
  pub unpaced : source.paced (line_source (lines_of old)) ≡ unpaced → source.paced (line_source (lines_of new)) ≡ unpaced

-- it is open, and its waits rose
pub record HasWaited {B : Type 0} (source : SourceOf B) (old new : Stream B) : Type 0 where
  pub is_open : is_open_in new ≡ true
  pub no_end : line_end_of (lines_of new) ≡ None
  pub waits : Rose (source.waits (line_source (lines_of old))) (source.waits (line_source (lines_of new)))

-- it is closed, and has ended
pub record HasEnded {B : Type 0} (new : Stream B) : Type 0 where
  pub is_closed : is_open_in new ≡ false
  pub at_end : line_end_of (lines_of new) ≡ Some End

-- it has no line
abbrev pub HasNone : {B : Type 0} → SourceOf B → (old new : Stream B) → Type 0
HasNone source old new = HasEnded new ⊎ HasWaited source old new

-- it was open
abbrev pub WasOpen : {B : Type 0} → (old new : Stream B) → Type 0
WasOpen old new = is_open_in old ≡ true

-- it has failed, and its faults rose where it had not failed before
abbrev pub HasFailed : {B : Type 0} → SourceOf B → (old new : Stream B) → Type 0
HasFailed source old new =
    (line_end_of (lines_of new) ≡ Some Fault) × (line_end_of (lines_of old) ≡ None → Rose (source.faults (line_source (lines_of old))) (source.faults (line_source (lines_of new))))

-- it has a line that is too long
abbrev pub HasTooLong : {B : Type 0} → (old new : Stream B) → Type 0
HasTooLong old new = line_end_of (lines_of new) ≡ Some TooLong

-- why a try came to this
abbrev pub TakenHasCause : {B : Type 0} → SourceOf B → (old new : Stream B) → Taken → Type 0
TakenHasCause source old new (taken.Line line) = WasOpen old new
TakenHasCause source old new taken.NotYet = HasWaited source old new
TakenHasCause source old new (taken.Ended End) = HasEnded new
TakenHasCause source old new (taken.Ended Fault) = HasFailed source old new
TakenHasCause source old new (taken.Ended TooLong) = HasTooLong old new

-- ---- rounds

-- it was tried and has no line, or it was not tried
abbrev pub IsTriedIf : {B : Type 0} → SourceOf B → Bool → (old new : Stream B) → Type 0
IsTriedIf source true old new = HasNone source old new
IsTriedIf source false old new = new ≡ old

-- each source of these places was tried and has no line, and no other was tried
abbrev pub AreTried : {B : Type 0} → SourceOf B → (places : ℕ → Bool) → (old new : ℕ → Option (Stream B)) → Type 0
AreTried source places old new = (k : ℕ) → Both (IsTriedIf source (places k)) (old k) (new k)

-- the source of the place is so, those of the places before it have no line, and no other was tried
pub record IsFound {B : Type 0} (source : SourceOf B) (Here : (old new : Stream B) → Type 0) (before : ℕ → Bool) (place : ℕ) (old new : ℕ → Option (Stream B)) : Type 0 where
  pub here : There Here (old place) (new place)
  pub others : (k : ℕ) → ¬ (k ≡ place) → Both (IsTriedIf source (before k)) (old k) (new k)

-- what was found, and where: `before place k` says that the place k comes before this place
abbrev pub Finds : {B : Type 0} → SourceOf B → (before : ℕ → ℕ → Bool) → (old new : ℕ → Option (Stream B)) → MergeItem → Type 0
Finds source before old new (item.Line place line) = IsFound source WasOpen (before place) place old new
Finds source before old new (item.Fault place) = IsFound source (HasFailed source) (before place) place old new
Finds source before old new (item.TooLong place) = IsFound source HasTooLong (before place) place old new
Finds source before old new _ = ⊥

-- from one place up to another
abbrev pub is_in : (from to : ℕ) → ℕ → Bool
is_in from to k = nat_le from k && nat_lt k to

-- in the round that begins at `first`, the place k comes before this place
abbrev pub comes_before : (first place : ℕ) → ℕ → Bool
comes_before first place k = if nat_lt place first then (nat_le first k || nat_lt k place) else is_in first place k

-- the place of what was found is one of these
abbrev pub IsFoundIn : (from to : ℕ) → MergeItem → Type 0
IsFoundIn from to (item.Line place line) = (from ≤ place) × (place < to)
IsFoundIn from to (item.Fault place) = (from ≤ place) × (place < to)
IsFoundIn from to (item.TooLong place) = (from ≤ place) × (place < to)
IsFoundIn from to _ = ⊥

-- the places from one up to another, tried in order until something was found
abbrev pub RangeHasCause : {B : Type 0} → SourceOf B → (from to : ℕ) → (old new : ℕ → Option (Stream B)) → Option MergeItem → Type 0
RangeHasCause source from to old new None = AreTried source (is_in from to) old new
RangeHasCause source from to old new (Some found) = IsFoundIn from to found × Finds source (is_in from) old new found

-- ---- whole rounds

-- why a round that begins at `first` came to this: what was found is the first in the round; nothing is ready only where
-- some source is open, and the waits of each that is open rose; and the end comes only where every source has ended
abbrev pub RoundHasCause : {B : Type 0} → SourceOf B → (first : ℕ) → (old new : ℕ → Option (Stream B)) → MergeItem → Type 0
RoundHasCause source first old new item.NotYet =
    ((k : ℕ) → Both (HasNone source) (old k) (new k)) × ((k : ℕ) × There (HasWaited source) (old k) (new k))
RoundHasCause source first old new item.End = (k : ℕ) → Both (λ a b. HasEnded b) (old k) (new k)
RoundHasCause source first old new found = Finds source (comes_before first) old new found
