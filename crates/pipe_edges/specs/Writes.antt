-- What writes do to the bytes and the faults of a sink.
use Rattle.std.specs.Prelude.{◌≡◌, ◌<◌, ◌≤◌, ℕ, List, ◌++◌, length, take}
use Rattle.pipe_types.specs.Counts.{Rose}
use Rattle.pipe_edges.specs.declared.sink.WriteEnd.{WriteEnd}
use Rattle.pipe_edges.specs.declared.sink.WriteEnd.TheVariants as write
use Rattle.pipe_edges.specs.declared.sink.PutEnd.{PutEnd}
use Rattle.pipe_edges.specs.declared.sink.PutEnd.TheVariants as put

-- a write took at least one byte, and no more than it was offered
abbrev pub WriteIsCounted : ℕ → WriteEnd → Type 0
WriteIsCounted size (write.Took n) = (0 < n) × (n ≤ size)
WriteIsCounted size write.Failed = Unit {0}

-- the front of the piece was appended, or nothing
abbrev pub WritesBytes : List ℕ → List ℕ → List ℕ → WriteEnd → Type 0
WritesBytes held piece held' (write.Took n) = held' ≡ held ++ take n piece
WritesBytes held piece held' write.Failed = held' ≡ held

-- a write fails only where the faults rose
abbrev pub WriteHasCause : ℕ → ℕ → WriteEnd → Type 0
WriteHasCause faults faults' (write.Took n) = Unit {0}
WriteHasCause faults faults' write.Failed = Rose faults faults'

-- how many of n bytes went out
abbrev pub put_count : ℕ → PutEnd → ℕ
put_count n put.All = n
put_count n (put.Failed w) = w

-- exactly the bytes that it says were appended
abbrev pub PutsBytes : List ℕ → List ℕ → List ℕ → PutEnd → Type 0
PutsBytes held bytes held' end = held' ≡ held ++ take (put_count (length bytes) end) bytes

-- a put fails only where the sink's faults rose, and before its last byte
abbrev pub PutHasCause : ℕ → ℕ → ℕ → PutEnd → Type 0
PutHasCause faults faults' n put.All = Unit {0}
PutHasCause faults faults' n (put.Failed w) = Rose faults faults' × (w < n)
