-- Places in rows, and some apart.
use Rattle.std.specs.Prelude.{◌≡◌, ℕ, ◌+◌, ◌-◌, ◌≤◌, List, length, map, get_or, slice_get, sum_by, Bool, true, false, Option, Some, None, if◌then◌else◌, ◌==◌}
use Rattle.std.proofs.Common.{sym, ◌∙◌}
use Rattle.std.proofs.lemmas.List.{length-map}
use Rattle.std.specs.declared.alloc.Global.{Global}
use Rattle.std.specs.declared.vec.Vec.{Vec}
use Rattle.pipe_types.specs.declared.message.Place.{Place}
use Rattle.pipe_types.specs.declared.message.Outcome.{Outcome}
use Rattle.pipe_types.specs.declared.message.Loss.{Loss}
use Rattle.pipe_types.specs.declared.message.Why.{Why}
use Rattle.pipe_types.specs.Numbers.{stage}
use Rattle.core_tables.specs.declared.place_table.Spot.{Spot}
use Rattle.core_tables.specs.declared.place_table.Standing.{Standing}

-- the place of a message in that spot, which is this other one where it stands apart
abbrev pub placed : (other : Place) → Spot → Place
placed other (Spot.Waiting s) = Place.Waiting s
placed other (Spot.Inbox sub) = Place.Inbox sub
placed other (Spot.Running s) = Place.Running s
placed other (Spot.Gathered s) = Place.Gathered s
placed other (Spot.InBatch b) = Place.InBatch b
placed other Spot.Successful = Place.Acked Outcome.Successful
placed other (Spot.Crashed s n) = Place.Lost (Loss.Killed s n Why.Crash)
placed other (Spot.Killed s n) = Place.Lost (Loss.Killed s n Why.Kill)
placed other (Spot.Stopped s n) = Place.Lost (Loss.Killed s n Why.Stop)
placed other (Spot.Limited s n) = Place.Lost (Loss.Killed s n Why.Limit)
placed other (Spot.Overflow s) = Place.Lost (Loss.Overflow s)
placed other Spot.Other = other

-- the place there, from 1
abbrev pub other_of : (others : List Place) → (at : ℕ) → Place
other_of others at = get_or others (at - 1) (Place.Waiting (stage 0))

-- the place that a row says
abbrev pub seen : (others : List Place) → Standing → Place
seen others row = placed (other_of others row.other) row.spot

-- the rows as a vector of their places
abbrev pub places_in : (others : List Place) → Vec Standing Global → Vec Place Global
places_in others v = record { ptr = v.ptr; len = v.len; cap = v.cap; alloc = v.alloc; items = map (seen others) v.items; ok = (v.ok.0 ∙ sym (length-map v.items (seen others)), v.ok.1); small = v.small }

abbrev pub is_other : Spot → Bool
is_other Spot.Other = true
is_other spot = false

-- the place is that of a message in this spot, or this other one, which stands apart
abbrev pub IsSplit : Place → Spot → Option Place → Type 0
IsSplit place spot None = (is_other spot ≡ false) × ((other : Place) → placed other spot ≡ place)
IsSplit place spot (Some other) = (spot ≡ Spot.Other) × (other ≡ place)

-- its place among so many others is there, where it has one, and it has one where it stands apart
pub record IsHeld (others : ℕ) (row : Standing) : Type 0 where
  pub most : row.other ≤ others
  pub least : is_other row.spot ≡ true → 1 ≤ row.other

-- 1 where the row never had a place among the others
abbrev pub unused : Standing → ℕ
unused row = if row.other == 0 then 1 else 0

-- no two rows have one place among the others, and each of those has a row
pub record AreKept (others : List Place) (rows : List Standing) : Type 0 where
  pub held : (i : ℕ) (a : Standing) → slice_get rows i ≡ Some a → IsHeld (length others) a
  pub apart : (i j : ℕ) (a b : Standing) → slice_get rows i ≡ Some a → slice_get rows j ≡ Some b → 1 ≤ a.other → a.other ≡ b.other → i ≡ j
  pub few : length others + sum_by unused rows ≤ length rows

-- why a message failed that stands there
abbrev pub reason_in : Place → Option (List ℕ)
reason_in (Place.Acked (Outcome.Failed why)) = Some why
reason_in place = None
