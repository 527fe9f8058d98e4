-- What the layers above see of a gate before a source.
use Rattle.std.specs.Prelude.{◌≡◌, ◌≤◌, ◌⊎◌, ◌+◌, ◌/◌, ◌==◌, ℕ, Bool, true, false, if◌then◌else◌, List, [], ◌∷◌, ◌++◌, take, max, Option, Some, None}
use Rattle.pipe_types.specs.Counts.{Rose}
use Rattle.pipe_edges.specs.Texts.{HasNoLf}
use Rattle.pipe_edges.specs.declared.source.ReadEnd.{ReadEnd}
use Rattle.pipe_edges.specs.declared.source.ReadEnd.TheVariants.{Got, End, Failed, Empty}

-- so many records at most in each interval of so many milliseconds
pub record Pace : Type 0 where
  pub share : ℕ
  pub interval : ℕ

-- the pace, if there is one; the greatest moment that was told, 0 before the first; the records given since its interval
-- began; whether bytes were given behind the last record; and how often the source itself had nothing ready
pub record PaceSeen : Type 0 where
  pub pace : Option Pace
  pub moment : ℕ
  pub given : ℕ
  pub part : Bool
  pub own : ℕ

abbrev pub unpaced : PaceSeen
unpaced = record { pace = None; moment = 0; given = 0; part = false; own = 0 }

-- ---- moments

-- the records given since the interval of the later moment began
abbrev pub given_since : (interval before now given : ℕ) → ℕ
given_since interval before now given = if before / interval == now / interval then given else 0

abbrev pub told_by : Option Pace → (now : ℕ) → PaceSeen → PaceSeen
told_by None now paced = paced
told_by (Some pace) now paced =
    record paced { moment = max paced.moment now; given = given_since pace.interval paced.moment (max paced.moment now) paced.given }

-- with a pace, a moment below the last one is taken as the last one, and nothing was given yet exactly where the interval is new
abbrev pub told_at : (now : ℕ) → PaceSeen → PaceSeen
told_at now paced = told_by paced.pace now paced

-- ---- reads

-- the pace and the moment stay, no more records are given than the share, and the source's own count does not fall
pub record KeepsPace (pace : Pace) (old new : PaceSeen) : Type 0 where
  pub same_pace : new.pace ≡ old.pace
  pub same_moment : new.moment ≡ old.moment
  pub within : old.given ≤ pace.share → new.given ≤ pace.share
  pub own_stays : old.own ≤ new.own

-- the source itself had nothing ready, or the share is used up
abbrev pub IsHeldUp : Pace → (old new : PaceSeen) → Type 0
IsHeldUp pace old new = Rose old.own new.own ⊎ (new.given ≡ pace.share)

-- the bytes of a record, or of a part of one, of which the last may be an LF and no other is
pub record EndsRecord (bytes : List ℕ) : Type 0 where
  pub front : List ℕ
  pub parts : bytes ≡ front ++ 10 ∷ []
  pub unbroken : HasNoLf front

abbrev pub Goes : (given : ℕ) → (part : Bool) → (old new : PaceSeen) → Type 0
Goes given part old new = (new.given ≡ given) × (new.part ≡ part)

-- the records given, one more where a part is the last record
abbrev pub with_last : (given : ℕ) → (part : Bool) → ℕ
with_last given true = given + 1
with_last given false = given

-- a record is an LF, or the first end behind bytes without LF; no byte is given behind an LF; and nothing is ready only where the
-- source itself had nothing ready or the share is used up
abbrev pub ReadCounts : Pace → (old new : PaceSeen) → (piece : List ℕ) → ReadEnd → Type 0
ReadCounts pace old new piece (Got n) = (HasNoLf (take n piece) × Goes old.given true old new) ⊎ (EndsRecord (take n piece) × Goes (old.given + 1) false old new)
ReadCounts pace old new piece End = Goes (with_last old.given old.part) false old new
ReadCounts pace old new piece Failed = Goes old.given old.part old new
ReadCounts pace old new piece Empty = Goes old.given old.part old new × IsHeldUp pace old new

abbrev pub ReadIsPacedBy : Option Pace → (old new : PaceSeen) → (piece : List ℕ) → ReadEnd → Type 0
ReadIsPacedBy None old new piece end = new ≡ old
ReadIsPacedBy (Some pace) old new piece end = KeepsPace pace old new × ReadCounts pace old new piece end

-- what a read does to what is seen of the gate; without a pace nothing
abbrev pub ReadIsPaced : (old new : PaceSeen) → (piece : List ℕ) → ReadEnd → Type 0
ReadIsPaced old new piece end = ReadIsPacedBy old.pace old new piece end
