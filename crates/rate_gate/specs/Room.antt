-- What is given of the bytes that were read ahead.
use Rattle.std.specs.Prelude.{◌≡◌, ◌<◌, ◌≤◌, ℕ, Bool, true, false, List, [], ◌++◌, length, take}
use Rattle.pipe_edges.specs.Texts.{HasNoLf}
use Rattle.pipe_edges.specs.Paces.{EndsRecord}
use Rattle.pipe_edges.specs.declared.source.ReadEnd.{ReadEnd}
use Rattle.pipe_edges.specs.declared.source.ReadEnd.TheVariants.{Got, End}
use Rattle.rate_gate.specs.declared.room.Gift.{Gift}
use Rattle.rate_gate.specs.declared.room.Gift.TheVariants.{Part, Record, Stopped}

-- a read gave just what is held; an end comes only where nothing is left
abbrev pub FillsBytes : (taken left held taken' left' : List ℕ) → ReadEnd → Type 0
FillsBytes taken left held taken' left' (Got n) = (left ≡ held ++ left') × (taken' ≡ taken ++ held)
FillsBytes taken left held taken' left' End = (left ≡ []) × (left' ≡ []) × (taken' ≡ taken)
FillsBytes taken left held taken' left' _ = (left' ≡ left) × (taken' ≡ taken)

-- something is held just where bytes were read
abbrev pub FillsRoom : (held : List ℕ) → ReadEnd → Type 0
FillsRoom held (Got n) = 0 < length held
FillsRoom held _ = held ≡ []

-- of the next bytes a part without LF is given, or all up to the first LF, which comes only where a record may be given
abbrev pub IsGift : (has_left : Bool) → (next : List ℕ) → Gift → Type 0
IsGift has_left next (Part n) = (0 < n) × (n ≤ length next) × HasNoLf (take n next)
IsGift has_left next (Record n) = (0 < n) × (n ≤ length next) × EndsRecord (take n next) × (has_left ≡ true)
IsGift has_left next Stopped = has_left ≡ false
