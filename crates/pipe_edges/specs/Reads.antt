-- What a read does to the bytes and the counts of a source.
use Rattle.std.specs.Prelude.{◌≡◌, ◌<◌, ◌≤◌, ℕ, List, [], ◌++◌, take}
use Rattle.pipe_types.specs.Counts.{Rose}
use Rattle.pipe_edges.specs.declared.source.ReadEnd.{ReadEnd}
use Rattle.pipe_edges.specs.declared.source.ReadEnd.TheVariants.{Got, End, Failed, Empty}

-- a read gave at least one byte, and no more than fit
abbrev pub ReadIsCounted : ℕ → ReadEnd → Type 0
ReadIsCounted room (Got n) = (0 < n) × (n ≤ room)
ReadIsCounted room _ = Unit {0}

-- the next bytes stand in the front of the piece; an end comes only where nothing is left; else no byte is taken
abbrev pub ReadsBytes : List ℕ → List ℕ → List ℕ → List ℕ → List ℕ → ReadEnd → Type 0
ReadsBytes taken left piece taken' left' (Got n) = (left ≡ take n piece ++ left') × (taken' ≡ taken ++ take n piece)
ReadsBytes taken left piece taken' left' End = (left ≡ []) × (left' ≡ []) × (taken' ≡ taken)
ReadsBytes taken left piece taken' left' _ = (left' ≡ left) × (taken' ≡ taken)

-- a fault comes only where the faults rose, and nothing ready only where the waits rose
abbrev pub ReadHasCause : ℕ → ℕ → ℕ → ℕ → ReadEnd → Type 0
ReadHasCause faults faults' waits waits' Failed = Rose faults faults'
ReadHasCause faults faults' waits waits' Empty = Rose waits waits'
ReadHasCause faults faults' waits waits' _ = Unit {0}
