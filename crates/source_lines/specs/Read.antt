-- What was read of a source since it was opened.
use Rattle.std.specs.Prelude.{◌≡◌, ◌≤◌, ℕ, List, ◌++◌, length, All, IsTrue, Option, Some, None}
use Rattle.pipe_types.specs.Counts.{Rose}
use Rattle.pipe_types.specs.Lines.{max_bytes}
use Rattle.pipe_edges.specs.Texts.{IsLine, BeginsTooLong, ended}
use Rattle.pipe_edges.specs.Cut.{CutsAll}
use Rattle.pipe_edges.specs.declared.reading.LineEnd.{LineEnd}
use Rattle.pipe_edges.specs.declared.reading.LineEnd.TheVariants as end
use Rattle.pipe_edges.specs.declared.reading.Fetched.{Fetched}
use Rattle.pipe_edges.specs.declared.reading.Fetched.TheVariants.{Records, NotYet, End, Fault, TooLong}
use Rattle.source_lines.specs.Cut.{AreAllLines}
use Rattle.source_lines.specs.Seen.{SourceSeen, LineSeen}

-- the records came, in order, from what the opened source had left
pub record AreReadFrom (opened : SourceSeen) (now : LineSeen) (records : List (List ℕ)) : Type 0 where
  pub same_telling : now.source.told ≡ opened.told
  pub each_is_a_line : All IsLine records
  pub same_bytes : IsTrue opened.told → now.source.taken ++ now.source.left ≡ opened.taken ++ opened.left
  pub to_come : IsTrue opened.told → ¬ (now.end ≡ Some end.End) → opened.left ≡ ended records ++ (now.waiting ++ now.source.left)
  pub at_end : IsTrue opened.told → now.end ≡ Some end.End → AreAllLines opened.left records
  pub at_long : now.end ≡ Some end.TooLong → BeginsTooLong now.waiting
  pub at_fault : now.end ≡ Some end.Fault → Rose opened.faults now.source.faults
  pub faults_stay : opened.faults ≤ now.source.faults
  pub waits_stay : opened.waits ≤ now.source.waits

-- the records follow those that were read before
abbrev pub ReadsOn : (records : List (List ℕ)) → (old new : LineSeen) → Type 0
ReadsOn records old new =
    (opened : SourceSeen) (earlier : List (List ℕ)) → AreReadFrom opened old earlier → AreReadFrom opened new (earlier ++ records)

-- what each answer says, where these bytes are held behind it: 1 to max records, none of them too long, and fewer than
-- max only where no whole line is held any more; that the waits rose; or the end that is known from now on
abbrev pub IsFetchAnswer : (max waits waits' : ℕ) → (held : List ℕ) → Option LineEnd → Fetched → Type 0
IsFetchAnswer max waits waits' held now (Records records) =
    (1 ≤ length records) × CutsAll max records held × All (λ r. length r ≤ max_bytes) records × (¬ (now ≡ Some end.Fault)) × (¬ (now ≡ Some end.TooLong))
IsFetchAnswer max waits waits' held now NotYet = Rose waits waits' × (now ≡ None)
IsFetchAnswer max waits waits' held now End = now ≡ Some end.End
IsFetchAnswer max waits waits' held now Fault = now ≡ Some end.Fault
IsFetchAnswer max waits waits' held now TooLong = now ≡ Some end.TooLong
