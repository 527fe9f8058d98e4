-- Picks by the places of units and rooms.
use Rattle.std.specs.Prelude.{ℕ, zero, suc, ◌+◌, ◌*◌, Bool, false, if◌then◌else◌, List, [], ◌∷◌, ◌++◌, length, get_or}
use Rattle.pipe_types.specs.declared.numbers.SubNo.{SubNo}
use Rattle.pipe_types.specs.declared.room.Room.{Room}
use Rattle.pipe_types.specs.Numbers.{same_sub}

-- how many rooms stand before the one of this subscription
abbrev pub place_in : List Room → SubNo → ℕ
place_in [] u = 0
place_in (v ∷ rooms) u = if same_sub v.sub u then 0 else place_in rooms u + 1

-- whether the subscription picks the unit at that place; the picks stand unit after unit, those of a unit by room
abbrev pub picks_in : List Room → List Bool → ℕ → SubNo → Bool
picks_in rooms picks j u = get_or picks (j * length rooms + place_in rooms u) false

-- the places of so many units
abbrev pub places : ℕ → List ℕ
places zero = []
places (suc n) = places n ++ n ∷ []
