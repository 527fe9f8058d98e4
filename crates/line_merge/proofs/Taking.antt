-- One try of a source.
use Rattle.std.proofs.Common.{◌≡◌, ℕ, Bool, true, false, List, [], length, refl, sym, subst, ◌∙◌, arith}
use Rattle.std.specs.Prelude.{Option, Some, None, Result, Ok, IfSome}
use Rattle.std.proofs.lemmas.List.{append-nil}
use Rattle.std.proofs.lemmas.List.Elements.{All-nil}
use Rattle.pipe_edges.specs.Texts.{IsLine}
use Rattle.pipe_types.specs.Counts.{Rose}
use Rattle.pipe_edges.specs.declared.source.ByteSource.{Ghosts as SourceOf}
use Rattle.pipe_edges.specs.LineSource.{line_source, waiting, line_end_of}
use Rattle.pipe_edges.specs.Paces.{PaceSeen, unpaced}
use Rattle.pipe_edges.specs.Pacing.{FetchIsPacedBy}
use Rattle.pipe_edges.specs.Fetch.{answer_of, records_in, records_of, Remembers}
use Rattle.pipe_edges.specs.declared.lines.LineSource.{LineSource}
use Rattle.pipe_edges.specs.declared.reading.LineEnd.{LineEnd}
use Rattle.pipe_edges.specs.declared.reading.LineEnd.TheVariants as end
use Rattle.pipe_edges.specs.declared.reading.Fetched.{Fetched}
use Rattle.pipe_edges.specs.declared.reading.Fetched.TheVariants as fetched
use Rattle.source_lines.proofs.Fetches.{Fetches, reads_on}
use Rattle.source_lines.specs.Seen.{line_seen}
use Rattle.source_lines.specs.Read.{ReadsOn}
use Rattle.line_merge.specs.Items.{line_of, fetched_by, leaves_open}
use Rattle.line_merge.specs.Streams.{lines_of, is_open_in}
use Rattle.line_merge.specs.Tries.{Gives, TakenHasCause}
use Rattle.line_merge.specs.declared.stream.Stream.{Stream}
use Rattle.line_merge.specs.Taken.{Taken, IsSingle, taken_by}
use Rattle.line_merge.specs.Taken.{Line, NotYet, Ended}

known_again : (P : LineEnd → Type 0) (now : Option LineEnd) (e : LineEnd) → now ≡ Some e → IfSome now P → P e
known_again P now e is fact = rw is at fact

abbrev ok_of : {E : Type 0} → Fetched → Result Fetched E
ok_of x = Ok x

stays_unpaced : {E : Type 0} (old new : PaceSeen) (held held' : List ℕ) (result : Result Fetched E) → old ≡ unpaced → FetchIsPacedBy old.pace old new held held' result → new ≡ unpaced
stays_unpaced old new held held' result is paced = rw is at paced

pub records_by : (t : Taken) → records_of (fetched_by t) ≡ line_of t
records_by (Line line) = refl
records_by NotYet = refl
records_by (Ended end.End) = refl
records_by (Ended end.Fault) = refl
records_by (Ended end.TooLong) = refl

-- what was read follows
pub gives_on : {B E : Type 0} (source : SourceOf B) (old new : Stream B) (result : Result Fetched E) (lines : List (List ℕ))
    → Fetches source (lines_of old) (lines_of new) 1 result → records_in result ≡ lines → Gives source lines old new
gives_on source old new result lines f is = record {
  each_is_a_line = rw is at f.each_is_a_line;
  waits_stay = f.handed.waits_stay;
  reads = subst (λ ls. ReadsOn ls (line_seen source (lines_of old)) (line_seen source (lines_of new))) is (reads_on source (lines_of old) (lines_of new) 1 result f);
  unpaced = λ e. stays_unpaced (source.paced (line_source (lines_of old))) (source.paced (line_source (lines_of new))) (waiting (lines_of old)) (waiting (lines_of new)) result e f.paced;
}

-- a source that was not read
pub gives_none : {B : Type 0} (source : SourceOf B) (s : Stream B) → Gives source [] s s
gives_none source s = record { each_is_a_line = All-nil IsLine; waits_stay = omega arith; reads = λ opened earlier before. rw append-nil before; unpaced = λ e. e }

-- one line was asked for
pub single : {B : Type 0} (E : Type 0) (source : SourceOf B) (old new : LineSource B) (x : Fetched) → Fetches source old new 1 (ok_of {E = E} x) → IsSingle x
single E source old new fetched.NotYet f = tt
single E source old new fetched.End f = tt
single E source old new fetched.Fault f = tt
single E source old new fetched.TooLong f = tt
single E source old new (fetched.Records rs) f = by (line_end_of old) refl
  where
    by : (known : Option LineEnd) → line_end_of old ≡ known → length rs ≡ 1
    by None is = let k = f.cause (rw is refl) in omega (arith, k.0, k.1.at_most)
    by (Some end.End) is = let e = (known_again (λ e. (ok_of {E = E} (fetched.Records rs) ≡ ok_of (answer_of e)) × (new ≡ old)) (line_end_of old) end.End is f.again).0 in cc
    by (Some end.Fault) is = let e = (known_again (λ e. (ok_of {E = E} (fetched.Records rs) ≡ ok_of (answer_of e)) × (new ≡ old)) (line_end_of old) end.Fault is f.again).0 in cc
    by (Some end.TooLong) is = let e = (known_again (λ e. (ok_of {E = E} (fetched.Records rs) ≡ ok_of (answer_of e)) × (new ≡ old)) (line_end_of old) end.TooLong is f.again).0 in cc

-- nothing was ready: the waits rose
waits_rose : {B : Type 0} (E : Type 0) (source : SourceOf B) (old new : LineSource B) (known : Option LineEnd) → line_end_of old ≡ known
    → Fetches source old new 1 (ok_of {E = E} fetched.NotYet) → Rose (source.waits (line_source old)) (source.waits (line_source new))
waits_rose E source old new None is f = (f.cause (rw is refl)).0
waits_rose E source old new (Some end.End) is f = let e = (known_again (λ e. (ok_of {E = E} fetched.NotYet ≡ ok_of (answer_of e)) × (new ≡ old)) (line_end_of old) end.End is f.again).0 in cc
waits_rose E source old new (Some end.Fault) is f = let e = (known_again (λ e. (ok_of {E = E} fetched.NotYet ≡ ok_of (answer_of e)) × (new ≡ old)) (line_end_of old) end.Fault is f.again).0 in cc
waits_rose E source old new (Some end.TooLong) is f = let e = (known_again (λ e. (ok_of {E = E} fetched.NotYet ≡ ok_of (answer_of e)) × (new ≡ old)) (line_end_of old) end.TooLong is f.again).0 in cc

-- why a try came to this
pub cause_of : {B : Type 0} (E : Type 0) (source : SourceOf B) (old new : Stream B) (t : Taken)
    → Fetches source (lines_of old) (lines_of new) 1 (ok_of {E = E} (fetched_by t)) → is_open_in old ≡ true → is_open_in new ≡ leaves_open t
    → TakenHasCause source old new t
cause_of E source old new (Line line) f was is = was
cause_of E source old new NotYet f was is =
    record { is_open = is; no_end = f.remembers; waits = waits_rose E source (lines_of old) (lines_of new) (line_end_of (lines_of old)) refl f }
cause_of E source old new (Ended end.End) f was is = record { is_closed = is; at_end = f.remembers }
cause_of E source old new (Ended end.Fault) f was is = (f.remembers, λ none. (f.cause (rw none refl)).0)
cause_of E source old new (Ended end.TooLong) f was is = f.remembers

-- what closes a source is its end
pub closes : (E : Type 0) (t : Taken) (now : Option LineEnd) → Remembers now (ok_of {E = E} (fetched_by t)) → leaves_open t ≡ false → now ≡ Some end.End
closes E (Line line) now remembers is = cc
closes E NotYet now remembers is = cc
closes E (Ended end.End) now remembers is = remembers
closes E (Ended end.Fault) now remembers is = cc
closes E (Ended end.TooLong) now remembers is = cc

-- the same of the fetch that it was
pub cause_by : {B : Type 0} (E : Type 0) (source : SourceOf B) (old new : Stream B) (x : Fetched) (t : Taken) → x ≡ fetched_by t
    → Fetches source (lines_of old) (lines_of new) 1 (ok_of {E = E} x) → is_open_in old ≡ true → is_open_in new ≡ leaves_open t
    → TakenHasCause source old new t
cause_by E source old new x t same f was is = cause_of E source old new t (rw same at f) was is

pub closes_by : (E : Type 0) (x : Fetched) (t : Taken) (now : Option LineEnd) (still : Bool) → x ≡ fetched_by t → Remembers now (ok_of {E = E} x) → still ≡ leaves_open t → still ≡ false → now ≡ Some end.End
closes_by E x t now still same remembers is closed = closes E t now (rw same at remembers) (sym is ∙ closed)
