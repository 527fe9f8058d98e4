-- What a read adds to the bytes that are held.
use Rattle.std.specs.Prelude.{◌≡◌, ◌<◌, Bool, ℕ, List, [], length, IsTrue}
use Rattle.pipe_edges.specs.declared.source.ReadEnd.{ReadEnd}
use Rattle.pipe_edges.specs.declared.source.ReadEnd.TheVariants.{Got, End}

-- more is held where the read gave bytes, and else the same; at an end nothing is left
abbrev pub ReadGrows : Bool → List ℕ → List ℕ → List ℕ → ReadEnd → Type 0
ReadGrows told held held' left' (Got n) = length held < length held'
ReadGrows told held held' left' End = (held' ≡ held) × (IsTrue told → left' ≡ [])
ReadGrows told held held' left' _ = held' ≡ held
