-- What a fetch of lines says.
use Rattle.std.specs.Prelude.{◌≡◌, ◌⊎◌, ◌<◌, ℕ, List, [], length, Option, Some, None, Result, Ok, Err}
use Rattle.pipe_types.specs.Counts.{Rose}
use Rattle.pipe_edges.specs.Texts.{IsLine, BeginsTooLong, ended, joined}
use Rattle.pipe_edges.specs.Cut.{CutsAll}
use Rattle.pipe_edges.specs.declared.reading.LineEnd.{LineEnd}
use Rattle.pipe_edges.specs.declared.reading.LineEnd.TheVariants as end
use Rattle.pipe_edges.specs.declared.reading.Fetched.{Fetched}
use Rattle.pipe_edges.specs.declared.reading.Fetched.TheVariants.{Records, NotYet, End, Fault, TooLong}

-- the answer that names an end
abbrev pub answer_of : LineEnd → Fetched
answer_of end.End = End
answer_of end.Fault = Fault
answer_of end.TooLong = TooLong

abbrev pub records_of : Fetched → List (List ℕ)
records_of (Records rs) = rs
records_of _ = []

-- the records that a fetch handed out
abbrev pub records_in : {E : Type 0} → Result Fetched E → List (List ℕ)
records_in (Ok f) = records_of f
records_in (Err _) = []

-- the bytes of the records, each with its LF; a last line at the end of the source has none
abbrev pub text_of : Option LineEnd → List (List ℕ) → List ℕ
text_of (Some end.End) records = joined records
text_of _ records = ended records

-- the first answer of its kind: all whole lines that were held, and at most max; else no whole line is held, and
-- the waits rose, or nothing is held, or the faults rose, or more bytes than a line may have are held before an LF
abbrev pub FetchHasCause : ℕ → ℕ → ℕ → ℕ → ℕ → List ℕ → Fetched → Type 0
FetchHasCause max faults faults' waits waits' waiting' (Records rs) = (0 < length rs) × CutsAll max rs waiting'
FetchHasCause max faults faults' waits waits' waiting' NotYet = Rose waits waits' × IsLine waiting'
FetchHasCause max faults faults' waits waits' waiting' End = waiting' ≡ []
FetchHasCause max faults faults' waits waits' waiting' Fault = Rose faults faults' × IsLine waiting'
FetchHasCause max faults faults' waits waits' waiting' TooLong = BeginsTooLong waiting'

-- what a fetch says is remembered: an end for good, and the end of the source already with its last line
abbrev pub Remembers : {E : Type 0} → Option LineEnd → Result Fetched E → Type 0
Remembers now (Ok (Records rs)) = (now ≡ None) ⊎ (now ≡ Some end.End)
Remembers now (Ok NotYet) = now ≡ None
Remembers now (Ok End) = now ≡ Some end.End
Remembers now (Ok Fault) = now ≡ Some end.Fault
Remembers now (Ok TooLong) = now ≡ Some end.TooLong
Remembers now (Err _) = now ≡ None
