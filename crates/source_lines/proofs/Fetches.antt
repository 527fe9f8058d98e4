-- What one fetch adds to what was read.
use Rattle.std.proofs.Common.{◌≡◌, ℕ, ◌≤◌, List, [], ◌∷◌, ◌++◌, length, arith, refl, ap, sym, ◌∙◌, inl, inr}
use Rattle.std.specs.Prelude.{All, IsTrue, IsNone, IfOk, IfSome, Option, Some, None, Result, Ok, Err}
use Rattle.std.proofs.lemmas.List.{append_assoc, append-nil}
use Rattle.std.proofs.lemmas.List.Elements.{All-nil, All-cons, All-append, All-head, All-tail}
use Rattle.pipe_types.specs.Counts.{Rose}
use Rattle.pipe_types.specs.Lines.{max_bytes, lines}
use Rattle.pipe_edges.specs.Texts.{IsLine, BeginsTooLong, ended, joined}
use Rattle.pipe_edges.specs.declared.source.ByteSource.{Ghosts as SourceOf}
use Rattle.pipe_edges.specs.LineSource.{line_source, waiting, line_end_of}
use Rattle.pipe_edges.specs.Handed.{Handed}
use Rattle.pipe_edges.specs.Pacing.{FetchIsPaced}
use Rattle.pipe_edges.specs.Fetch.{answer_of, records_in, text_of, FetchHasCause, Remembers}
use Rattle.pipe_edges.specs.declared.lines.LineSource.{LineSource}
use Rattle.pipe_edges.specs.declared.reading.LineEnd.{LineEnd}
use Rattle.pipe_edges.specs.declared.reading.LineEnd.TheVariants as end
use Rattle.pipe_edges.specs.declared.reading.Fetched.{Fetched}
use Rattle.pipe_edges.specs.declared.reading.Fetched.TheVariants.{End, Fault, TooLong}
use Rattle.pipe_edges.proofs.TextLaws.{lines_ended, lines_nil}
use Rattle.pipe_edges.proofs.HandLaws.{to_come as rest_of}
use Rattle.source_lines.specs.Cut.{AreAllLines}
use Rattle.source_lines.specs.Seen.{SourceSeen, line_seen}
use Rattle.source_lines.specs.Read.{AreReadFrom, ReadsOn}
use Rattle.source_lines.proofs.Pieces.{ended_append, pieces_ended, short_joined}

-- what a fetch promises of the source before and after
pub record Fetches {B E : Type 0} (source : SourceOf B) (old new : LineSource B) (max : ℕ) (result : Result Fetched E) : Type 0 where
  pub handed :
      Handed source (line_source old) (line_source new) (waiting old) (waiting new)
      (text_of (line_end_of new) (records_in result))
  pub in_order :
      IsTrue (source.told (line_source old))
      → lines (waiting old ++ source.left (line_source old)) ≡ records_in result ++ lines (waiting new ++ source.left (line_source new))
  pub each_is_a_line : All IsLine (records_in result)
  pub cause :
      IfOk result (λ f. IsNone (line_end_of old)
      → FetchHasCause max (source.faults (line_source old)) (source.faults (line_source new)) (source.waits (line_source old)) (source.waits (line_source new)) (waiting new) f)
  pub nothing_left :
      IsNone (line_end_of old) → line_end_of new ≡ Some end.End
      → (waiting new ≡ []) × (IsTrue (source.told (line_source old)) → source.left (line_source new) ≡ [])
  pub remembers : Remembers (line_end_of new) result
  pub again : IfSome (line_end_of old) (λ e. (result ≡ Ok (answer_of e)) × (new ≡ old))
  pub paced : FetchIsPaced source (line_source old) (line_source new) (waiting old) (waiting new) result

rose_from : (a b c : ℕ) → a ≤ b → Rose b c → Rose a c
rose_from a b c le (inl below) = inl (omega (arith, le, below))
rose_from a b c le (inr full) = inr full

text_open : (now : Option LineEnd) (records : List (List ℕ)) → ¬ (now ≡ Some end.End) → text_of now records ≡ ended records
text_open (Some end.End) records no_end = absurd (no_end refl)
text_open _ records no_end = refl

no_rest : (text held left : List ℕ) → held ≡ [] → left ≡ [] → text ++ (held ++ left) ≡ text
no_rest text held left no_held no_left = rw (no_held, no_left, append-nil) refl

no_lines : (records : List (List ℕ)) (held left : List ℕ) → held ≡ [] → left ≡ [] → records ++ lines (held ++ left) ≡ records
no_lines records held left no_held no_left = rw (no_held, no_left, lines_nil, append-nil) refl

text_closed : (now : Option LineEnd) (records : List (List ℕ)) → now ≡ Some end.End → text_of now records ≡ joined records
text_closed now records is = rw is refl

known_again : (P : LineEnd → Type 0) (now : Option LineEnd) (e : LineEnd) → now ≡ Some e → IfSome now P → P e
known_again P now e is fact = rw is at fact

no_records : {E : Type 0} (e : LineEnd) (result : Result Fetched E) → result ≡ Ok (answer_of e) → records_in result ≡ []
no_records end.End result is = rw is refl
no_records end.Fault result is = rw is refl
no_records end.TooLong result is = rw is refl

-- which answer an end is
long_cause : {E : Type 0} (now : Option LineEnd) (max f f' w w' : ℕ) (held : List ℕ) (result : Result Fetched E)
    → Remembers now result → now ≡ Some end.TooLong → IfOk result (λ x. FetchHasCause max f f' w w' held x) → BeginsTooLong held
long_cause now max f f' w w' held (Ok TooLong) remembers is cause = cause
long_cause now max f f' w w' held _ remembers is cause = grind arith

fault_cause : {E : Type 0} (now : Option LineEnd) (max f f' w w' : ℕ) (held : List ℕ) (result : Result Fetched E)
    → Remembers now result → now ≡ Some end.Fault → IfOk result (λ x. FetchHasCause max f f' w w' held x) → Rose f f'
fault_cause now max f f' w w' held (Ok Fault) remembers is cause = cause.0
fault_cause now max f f' w w' held _ remembers is cause = grind arith

short_lines : (records : List (List ℕ)) → All IsLine records → All (λ piece. length piece ≤ max_bytes) records
short_lines [] each = All-nil (λ piece. length piece ≤ max_bytes)
short_lines (r ∷ rs) each =
    All-cons (λ piece. length piece ≤ max_bytes) r rs (All-head IsLine r rs each).short (short_lines rs (All-tail IsLine r rs each))

-- the last records of a source
all_lines : (bytes : List ℕ) (before records : List (List ℕ)) → All IsLine before → All IsLine records
    → bytes ≡ ended before ++ joined records → lines (joined records) ≡ records → AreAllLines bytes (before ++ records)
all_lines bytes before records each more is all = record {
  all = rw (is, lines_ended before (joined records) each, all) refl;
  short =
      rw (is, pieces_ended before (joined records) each)
      (All-append (λ piece. length piece ≤ max_bytes) before _ (short_lines before each) (short_joined records more all));
}

is_open : {now : Option LineEnd} → now ≡ None → ¬ (now ≡ Some end.End)
is_open none is_end = grind arith

-- the cause of an answer of a source that had not ended
opens : {E : Type 0} {now : Option LineEnd} (P : Fetched → Type 0) (result : Result Fetched E) → IfOk result (λ f. IsNone now → P f) → now ≡ None → IfOk result P
opens P (Ok f) cause none = cause (rw none refl)
opens P (Err e) cause none = tt

read_open : {B E : Type 0} (source : SourceOf B) (opened : SourceSeen) (old new : LineSource B) (records : List (List ℕ)) (max : ℕ) (result : Result Fetched E)
    → line_end_of old ≡ None → Fetches source old new max result
    → AreReadFrom opened (line_seen source old) records
    → AreReadFrom opened (line_seen source new) (records ++ records_in result)
read_open source opened old new records max result none f r = record {
  same_telling = f.handed.same_telling ∙ r.same_telling;
  each_is_a_line = All-append IsLine records (records_in result) r.each_is_a_line f.each_is_a_line;
  same_bytes = λ t.
      rw (f.handed.into_taken (rw r.same_telling t))
      (append_assoc (source.taken (line_source old)) f.handed.part (source.left (line_source new))
      ∙ ap (λ x. source.taken (line_source old) ++ x) (sym (f.handed.from_left (rw r.same_telling t)))
      ∙ r.same_bytes t);
  to_come = λ t no_end.
      let e : waiting old ++ source.left (line_source old) ≡ ended (records_in result) ++ (waiting new ++ source.left (line_source new)) =
      rw (text_open (line_end_of new) (records_in result) no_end) at (rest_of f.handed (rw r.same_telling t)) in
      rw (r.to_come t (is_open none), e, ended_append records (records_in result))
      (sym (append_assoc (ended records) (ended (records_in result)) (waiting new ++ source.left (line_source new))));
  at_end = λ t is_end.
      let nothing = f.nothing_left (rw none refl) is_end in
      let e : waiting old ++ source.left (line_source old) ≡ joined (records_in result) =
      rest_of f.handed (rw r.same_telling t)
      ∙ no_rest _ (waiting new) (source.left (line_source new)) nothing.0 (nothing.1 (rw r.same_telling t))
      ∙ text_closed (line_end_of new) (records_in result) is_end in
      let all : lines (joined (records_in result)) ≡ records_in result =
      ap lines (sym e)
      ∙ f.in_order (rw r.same_telling t)
      ∙ no_lines _ (waiting new) (source.left (line_source new)) nothing.0 (nothing.1 (rw r.same_telling t)) in
      all_lines opened.left records (records_in result) r.each_is_a_line f.each_is_a_line (rw (r.to_come t (is_open none), e) refl) all;
  at_long = λ is. long_cause (line_end_of new) max _ _ _ _ (waiting new) result f.remembers is (opens _ result f.cause none);
  at_fault = λ is. rose_from opened.faults (source.faults (line_source old)) (source.faults (line_source new)) r.faults_stay
      (fault_cause (line_end_of new) max _ _ _ _ (waiting new) result f.remembers is (opens _ result f.cause none));
  faults_stay = omega (arith, r.faults_stay, f.handed.faults_stay);
  waits_stay = omega (arith, r.waits_stay, f.handed.waits_stay);
}

read_more : {B E : Type 0} (source : SourceOf B) (opened : SourceSeen) (old new : LineSource B) (records : List (List ℕ)) (max : ℕ) (result : Result Fetched E) (known : Option LineEnd)
    → line_end_of old ≡ known → Fetches source old new max result
    → AreReadFrom opened (line_seen source old) records
    → AreReadFrom opened (line_seen source new) (records ++ records_in result)
read_more source opened old new records max result None is f r =
    read_open source opened old new records max result is f r
read_more source opened old new records max result (Some e) is f r =
    let again : (result ≡ Ok (answer_of e)) × (new ≡ old) = known_again _ (line_end_of old) e is f.again in
    rw (no_records e result again.0, again.1, append-nil) r

-- the records of a fetch follow those of the fetches before
pub reads_on : {B E : Type 0} (source : SourceOf B) (old new : LineSource B) (max : ℕ) (result : Result Fetched E)
    → Fetches source old new max result
    → ReadsOn (records_in result) (line_seen source old) (line_seen source new)
reads_on source old new max result f opened earlier before = read_more source opened old new earlier max result (line_end_of old) refl f before
