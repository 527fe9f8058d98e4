-- What a try of one source came to.
use Rattle.std.specs.Prelude.{◌≡◌, ℕ, List, [], ◌∷◌, length}
use Rattle.pipe_edges.specs.declared.reading.LineEnd.{LineEnd}
use Rattle.pipe_edges.specs.declared.reading.LineEnd.TheVariants as end
use Rattle.pipe_edges.specs.declared.reading.Fetched.{Fetched}
use Rattle.pipe_edges.specs.declared.reading.Fetched.TheVariants as fetched

-- a line, nothing ready, or an end
pub data Taken : Type 0 where
  Line : (line : List ℕ) → Taken
  NotYet : Taken
  Ended : (end : LineEnd) → Taken

-- the records are one line
abbrev pub IsSingle : Fetched → Type 0
IsSingle (fetched.Records records) = length records ≡ 1
IsSingle _ = Unit {0}

-- the one line of a list
abbrev pub only : (records : List (List ℕ)) → List ℕ
only [] = []
only (line ∷ rest) = line

-- a fetch of one line as what a try came to
abbrev pub taken_by : Fetched → Taken
taken_by (fetched.Records records) = Line (only records)
taken_by fetched.NotYet = NotYet
taken_by fetched.End = Ended end.End
taken_by fetched.Fault = Ended end.Fault
taken_by fetched.TooLong = Ended end.TooLong
