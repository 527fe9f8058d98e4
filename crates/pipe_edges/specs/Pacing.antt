-- What a fetch of lines does with a pace.
use Rattle.std.specs.Prelude.{◌≡◌, ◌⊎◌, ◌+◌, ℕ, Bool, true, false, List, [], ◌∷◌, ◌++◌, length, take, Option, Some, None, Result, Ok, Err, IfOk}
use Rattle.pipe_edges.specs.declared.source.ByteSource.{Ghosts as SourceOf}
use Rattle.pipe_edges.specs.Texts.{HasNoLf}
use Rattle.pipe_edges.specs.Paces.{Pace, PaceSeen, told_at, IsHeldUp, KeepsPace, EndsRecord, ReadIsPaced}
use Rattle.pipe_edges.specs.declared.source.ReadEnd.{ReadEnd}
use Rattle.pipe_edges.specs.declared.source.ReadEnd.TheVariants.{Got}
use Rattle.pipe_edges.specs.declared.reading.LineEnd.TheVariants as end
use Rattle.pipe_edges.specs.declared.reading.Fetched.{Fetched}
use Rattle.pipe_edges.specs.declared.reading.Fetched.TheVariants as fetched
use Rattle.pipe_edges.specs.declared.reading.Stop.{Stop}
use Rattle.pipe_edges.specs.declared.reading.Stop.TheVariants.{Lines, Last, NotYet, Ended}

-- the moment was told: the gate knows it, and nothing else has changed
pub record IsToldAt {B : Type 0} (source : SourceOf B) (now : ℕ) (old new : B) : Type 0 where
  pub same_telling : source.told new ≡ source.told old
  pub same_bytes : (source.taken new ≡ source.taken old) × (source.left new ≡ source.left old)
  pub same_counts : (source.faults new ≡ source.faults old) × (source.waits new ≡ source.waits old)
  pub paced : source.paced new ≡ told_at now (source.paced old)

-- there are bytes
abbrev pub is_begun : List ℕ → Bool
is_begun [] = false
is_begun (b ∷ bytes) = true

-- what is held is a part of one record, and is there just where bytes were given behind the last record: so it is as long as no
-- call has found no memory
pub record IsInStep (paced : PaceSeen) (held : List ℕ) : Type 0 where
  pub unbroken : HasNoLf held
  pub part : paced.part ≡ is_begun held

-- so many records were given, and what is held is in step
pub record Gives (before records : ℕ) (paced : PaceSeen) (held : List ℕ) : Type 0 where
  pub count : paced.given ≡ before + records
  pub in_step : IsInStep paced held

-- ---- rounds

-- what was read is held
abbrev pub AddsRead : (held held' piece : List ℕ) → ReadEnd → Type 0
AddsRead held held' piece (Got n) = held' ≡ held ++ take n piece
AddsRead held held' piece _ = held' ≡ held

-- a read with a pace, by what is held
pub record ReadIsHeld {B : Type 0} (source : SourceOf B) (old new : B) (held held' : List ℕ) (end : ReadEnd) : Type 0 where
  pub piece : List ℕ
  pub added : AddsRead held held' piece end
  pub paced : ReadIsPaced (source.paced old) (source.paced new) piece end

-- what is held is a part of a record, or the record that was given last
abbrev pub IsBetween : (before : ℕ) → PaceSeen → (held : List ℕ) → Type 0
IsBetween before paced held = Gives before 0 paced held ⊎ (EndsRecord held × (paced.given ≡ before + 1) × (paced.part ≡ false))

abbrev pub StopCounts : (before : ℕ) → PaceSeen → (held : List ℕ) → Stop → Type 0
StopCounts before paced held (Lines records) = Gives before (length records) paced held
StopCounts before paced held (Last records) = Gives before (length records) paced held
StopCounts before paced held (Ended end.TooLong) = Unit {0}
StopCounts before paced held _ = Gives before 0 paced held

abbrev pub RoundCounts : (before : ℕ) → PaceSeen → (held : List ℕ) → Option Stop → Type 0
RoundCounts before paced held None = IsBetween before paced held
RoundCounts before paced held (Some stop) = StopCounts before paced held stop

abbrev pub RoundIsHeldUp : Pace → (old new : PaceSeen) → Option Stop → Type 0
RoundIsHeldUp pace old new (Some NotYet) = IsHeldUp pace old new
RoundIsHeldUp pace old new _ = Unit {0}

pub record RoundKeepsPace {E : Type 0} (pace : Pace) (old new : PaceSeen) (held held' : List ℕ) (result : Result (Option Stop) E) : Type 0 where
  pub kept : KeepsPace pace old new
  pub counted : (before : ℕ) → IsBetween before old held → IfOk result (RoundCounts before new held')
  pub held_up : IfOk result (RoundIsHeldUp pace old new)

abbrev pub RoundIsPacedBy : {E : Type 0} → Option Pace → (old new : PaceSeen) → (held held' : List ℕ) → Result (Option Stop) E → Type 0
RoundIsPacedBy None old new held held' result = new ≡ old
RoundIsPacedBy (Some pace) old new held held' result = RoundKeepsPace pace old new held held' result

-- a round of a fetch, or several
abbrev pub RoundIsPaced : {B E : Type 0} → SourceOf B → (old new : B) → (held held' : List ℕ) → Result (Option Stop) E → Type 0
RoundIsPaced source old new held held' result =
    RoundIsPacedBy (source.paced old).pace (source.paced old) (source.paced new) held held' result

abbrev pub as_round : {E : Type 0} → Result Stop E → Result (Option Stop) E
as_round (Ok stop) = Ok (Some stop)
as_round (Err error) = Err error

-- ---- fetches

abbrev pub FetchCounts : (before : ℕ) → PaceSeen → (held : List ℕ) → Fetched → Type 0
FetchCounts before paced held (fetched.Records records) = Gives before (length records) paced held
FetchCounts before paced held fetched.TooLong = Unit {0}
FetchCounts before paced held _ = Gives before 0 paced held

abbrev pub FetchIsHeldUp : Pace → (old new : PaceSeen) → Fetched → Type 0
FetchIsHeldUp pace old new fetched.NotYet = IsHeldUp pace old new
FetchIsHeldUp pace old new _ = Unit {0}

-- what is in step stays so, and the records that are handed out are just those that the source gave, unless a line is too long;
-- nothing is ready only where the source itself had nothing ready or the share is used up
pub record FetchKeepsPace {E : Type 0} (pace : Pace) (old new : PaceSeen) (held held' : List ℕ) (result : Result Fetched E) : Type 0 where
  pub kept : KeepsPace pace old new
  pub counted : IsInStep old held → IfOk result (FetchCounts old.given new held')
  pub held_up : IfOk result (FetchIsHeldUp pace old new)

abbrev pub FetchIsPacedBy : {E : Type 0} → Option Pace → (old new : PaceSeen) → (held held' : List ℕ) → Result Fetched E → Type 0
FetchIsPacedBy None old new held held' result = new ≡ old
FetchIsPacedBy (Some pace) old new held held' result = FetchKeepsPace pace old new held held' result

-- a fetch of a source with a pace; without one the gate stays as it is
abbrev pub FetchIsPaced : {B E : Type 0} → SourceOf B → (old new : B) → (held held' : List ℕ) → Result Fetched E → Type 0
FetchIsPaced source old new held held' result =
    FetchIsPacedBy (source.paced old).pace (source.paced old) (source.paced new) held held' result
