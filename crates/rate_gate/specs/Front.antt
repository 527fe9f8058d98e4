-- What stands between a source and who reads it.
use Rattle.std.specs.Prelude.{◌≡◌, ◌<◌, ◌≤◌, ◌⊎◌, ◌+◌, ◌-◌, ◌^◌, ℕ, Bool, true, false, List, ◌++◌, length, take, min, Some, IsTrue}
use Rattle.pipe_types.specs.Counts.{Rose}
use Rattle.pipe_edges.specs.Texts.{HasNoLf}
use Rattle.pipe_edges.specs.Paces.{Pace, PaceSeen, EndsRecord}
use Rattle.pipe_edges.specs.declared.source.ReadEnd.{ReadEnd}
use Rattle.pipe_edges.specs.declared.source.ReadEnd.TheVariants.{Got, End, Empty}
use Rattle.rate_gate.specs.Gate.{pace_of, moment_of, given_of}
use Rattle.rate_gate.specs.declared.front.Front.{Front}

-- the bytes that were read and not given; what is seen of the gate; whether bytes were given behind the last record; and how often
-- nothing was given since the share was used up
pub record FrontSeen : Type 0 where
  pub held : List ℕ
  pub pace : Pace
  pub moment : ℕ
  pub given : ℕ
  pub part : Bool
  pub stops : ℕ

abbrev pub front_seen : Front → FrontSeen
front_seen f = record { held = f.room; pace = pace_of f.gate; moment = moment_of f.gate; given = given_of f.gate; part = f.part; stops = f.stops }

-- of the bytes that were read, those that were given
abbrev pub taken_before : (held taken : List ℕ) → List ℕ
taken_before held taken = take (length taken - length held) taken

-- the last bytes that were read are held
abbrev pub HoldsLast : (told : Bool) → (held taken : List ℕ) → Type 0
HoldsLast told held taken = IsTrue told → taken ≡ taken_before held taken ++ held

-- the waits of the source and the stops, as far as a counter goes
abbrev pub waits_with : (stops waits : ℕ) → ℕ
waits_with stops waits = min (waits + stops) (2 ^ 64 - 1)

-- what the layers above see of the gate, where the source itself had nothing ready so often
abbrev pub paced_with : (waits : ℕ) → FrontSeen → PaceSeen
paced_with waits front = record { pace = Some front.pace; moment = front.moment; given = front.given; part = front.part; own = waits }

-- ---- what is done at the gate

-- the share has one left
abbrev pub HasOneLeft : FrontSeen → Type 0
HasOneLeft front = front.given < front.pace.share

-- nothing is given, since the share is used up
pub record IsStopped (old new : FrontSeen) : Type 0 where
  pub same : new ≡ record old { stops = new.stops }
  pub rose : Rose old.stops new.stops
  pub stops_stay : old.stops ≤ new.stops
  pub used_up : old.given ≡ old.pace.share

-- the gate where a part of a record was given, and where a record was
abbrev pub with_part : FrontSeen → FrontSeen
with_part front = record front { part = true }

abbrev pub with_one : FrontSeen → FrontSeen
with_one front = record front { given = front.given + 1; part = false }

-- a part of a record is given, or a record, and the share had one left
abbrev pub GivesOne : (old new : FrontSeen) → (bytes : List ℕ) → Type 0
GivesOne old new bytes =
    (HasNoLf bytes × (new ≡ record (with_part old) { held = new.held })) ⊎ (EndsRecord bytes × HasOneLeft old × (new ≡ record (with_one old) { held = new.held }))

-- the first bytes of those that are held
pub record GivesFirst (room n : ℕ) (old new : FrontSeen) (piece : List ℕ) : Type 0 where
  pub some : 0 < n
  pub fits : n ≤ room
  pub parts : old.held ≡ take n piece ++ new.held
  pub counts : GivesOne old new (take n piece)

abbrev pub IsGiven : (room : ℕ) → (old new : FrontSeen) → (piece : List ℕ) → ReadEnd → Type 0
IsGiven room old new piece (Got n) = GivesFirst room n old new piece
IsGiven room old new piece Empty = IsStopped old new
IsGiven room old new piece _ = ⊥

-- the end is given, as a record where bytes were given behind the last one
abbrev pub GivesEnd : (old new : FrontSeen) → Type 0
GivesEnd old new = ((old.part ≡ false) × (new ≡ old)) ⊎ ((old.part ≡ true) × HasOneLeft old × (new ≡ with_one old))

abbrev pub IsEnded : (old new : FrontSeen) → ReadEnd → Type 0
IsEnded old new End = GivesEnd old new
IsEnded old new Empty = IsStopped old new
IsEnded old new _ = ⊥
