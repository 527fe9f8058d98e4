-- Why the reading of a fetch stops.
use Rattle.std.specs.Prelude.{◌≡◌, ◌<◌, Bool, ℕ, List, [], ◌∷◌, length, All, IsTrue, Result, Ok, Err, Option, Some, None}
use Rattle.pipe_types.specs.Counts.{Rose}
use Rattle.pipe_edges.specs.declared.source.ByteSource.{Ghosts as SourceOf}
use Rattle.pipe_edges.specs.Texts.{IsLine, BeginsTooLong, ended, joined}
use Rattle.pipe_edges.specs.Cut.{CutsAll}
use Rattle.pipe_edges.specs.Fetch.{answer_of}
use Rattle.pipe_edges.specs.declared.reading.LineEnd.{LineEnd}
use Rattle.pipe_edges.specs.declared.reading.LineEnd.TheVariants as end
use Rattle.pipe_edges.specs.declared.reading.Fetched.{Fetched}
use Rattle.pipe_edges.specs.declared.reading.Fetched.TheVariants as fetched
use Rattle.pipe_edges.specs.declared.reading.Stop.{Stop}
use Rattle.pipe_edges.specs.declared.reading.Stop.TheVariants.{Lines, Last, NotYet, Ended}

-- the answer of a fetch that stops so
abbrev pub fetched_of : Stop → Fetched
fetched_of (Lines rs) = fetched.Records rs
fetched_of (Last rs) = fetched.Records rs
fetched_of NotYet = fetched.NotYet
fetched_of (Ended e) = answer_of e

-- the end that is then known
abbrev pub end_of : Stop → Option LineEnd
end_of (Lines rs) = None
end_of (Last rs) = Some end.End
end_of NotYet = None
end_of (Ended e) = Some e

-- the bytes of the lines
abbrev pub stop_text : Stop → List ℕ
stop_text (Lines rs) = ended rs
stop_text (Last rs) = joined rs
stop_text _ = []

abbrev pub text_in : {E : Type 0} → Result Stop E → List ℕ
text_in (Ok s) = stop_text s
text_in (Err _) = []

abbrev pub text_in_round : {E : Type 0} → Result (Option Stop) E → List ℕ
text_in_round (Ok (Some s)) = stop_text s
text_in_round _ = []

-- a last line without an LF, where the source gives no more
pub record IsLast (told : Bool) (records : List (List ℕ)) (held' left' : List ℕ) : Type 0 where
  pub line : List ℕ
  pub alone : records ≡ line ∷ []
  pub is_line : IsLine line
  pub some : 0 < length line
  pub none_held : held' ≡ []
  pub none_left : IsTrue told → left' ≡ []

-- why the reading stops, by what is held then
abbrev pub StopHasCause : {B : Type 0} → SourceOf B → B → B → List ℕ → ℕ → Stop → Type 0
StopHasCause source old new held' max (Lines rs) = (0 < length rs) × CutsAll max rs held' × All IsLine rs
StopHasCause source old new held' max (Last rs) = IsLast (source.told old) rs held' (source.left new)
StopHasCause source old new held' max NotYet = Rose (source.waits old) (source.waits new) × IsLine held'
StopHasCause source old new held' max (Ended end.End) = (held' ≡ []) × (IsTrue (source.told old) → source.left new ≡ [])
StopHasCause source old new held' max (Ended end.Fault) = Rose (source.faults old) (source.faults new) × IsLine held'
StopHasCause source old new held' max (Ended end.TooLong) = BeginsTooLong held'

-- a round stops so, or it read more behind a part of a line
abbrev pub RoundHasCause : {B : Type 0} → SourceOf B → B → B → List ℕ → List ℕ → ℕ → Option Stop → Type 0
RoundHasCause source old new held held' max (Some s) = StopHasCause source old new held' max s
RoundHasCause source old new held held' max None = (length held < length held') × IsLine held
