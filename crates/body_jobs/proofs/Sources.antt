-- A fetch as it is seen.
use Rattle.std.proofs.Common.{◌≡◌, ◌≤◌, ℕ, List, [], ◌∷◌, length, refl, ap, ◌∙◌, arith}
use Rattle.std.specs.Prelude.{Option, Some, None, Result, Ok, Err, IfSome, IsNone, All}
use Rattle.std.proofs.lemmas.List.{append-nil}
use Rattle.std.proofs.lemmas.List.Elements.{All-nil, All-cons, All-head, All-tail}
use Rattle.pipe_edges.specs.declared.source.ByteSource.{Ghosts as SourceOf}
use Rattle.pipe_edges.specs.LineSource.{line_source, waiting, line_end_of}
use Rattle.pipe_edges.specs.Paces.{Pace}
use Rattle.pipe_edges.specs.Pacing.{FetchIsPacedBy, FetchCounts as GivesBy, FetchIsHeldUp as IsHeldUpBy}
use Rattle.pipe_edges.specs.Needed.{ReadsAsNeeded}
use Rattle.pipe_edges.specs.Fetch.{answer_of, records_in, records_of, text_of, FetchHasCause, Remembers}
use Rattle.pipe_edges.specs.declared.lines.LineSource.{LineSource}
use Rattle.pipe_types.specs.Lines.{max_bytes}
use Rattle.pipe_edges.specs.Texts.{IsLine}
use Rattle.pipe_edges.specs.declared.reading.LineEnd.{LineEnd}
use Rattle.pipe_edges.specs.declared.reading.LineEnd.TheVariants as end
use Rattle.pipe_edges.specs.declared.reading.Fetched.{Fetched}
use Rattle.pipe_edges.specs.declared.reading.Fetched.TheVariants.{Records, NotYet, End, Fault, TooLong}
use Rattle.source_lines.proofs.Fetches.{Fetches, reads_on}
use Rattle.stage_bodies.specs.Seen.{LineSeen, line_seen, MergeSeen, FeedSeen, Single, Merged}
use Rattle.stage_bodies.specs.Jobs.{Both, ReadsOn, IsFetched, Fetches as FetchesOn, FetchGives, FetchIsHeldUp, FetchIsPaced, CutKeepsPace, IsCutFetch, IsCutMerge, IsCutFeed, records_of as records_in_outcome}
use Rattle.body_jobs.specs.Fetched.{came_of}

-- a source that was not read
not_read : (now : LineSeen) → ReadsOn [] now now
not_read now opened earlier before = rw append-nil before

short_lines : (records : List (List ℕ)) → All IsLine records → All (λ r. length r ≤ max_bytes) records
short_lines [] each = All-nil (λ r. length r ≤ max_bytes)
short_lines (r ∷ rs) each = All-cons (λ r. length r ≤ max_bytes) r rs (All-head IsLine r rs each).short (short_lines rs (All-tail IsLine r rs each))

-- what the answer says
answered : (E : Type 0) (max f f' w w' : ℕ) (held : List ℕ) (known now : Option LineEnd) (x : Fetched)
    → (IsNone known → FetchHasCause max f f' w w' held x) → IfSome known (λ e. x ≡ answer_of e) → Remembers {E = E} now (Ok x) → All IsLine (records_of x)
    → IsFetched max w w' held now (came_of x)
answered E max f f' w w' held None now (Records rs) cause again remembers each =
    let k = cause refl in
    let most : 1 ≤ length rs = omega (arith, k.0) in
    (most, k.1.at_most, k.1, short_lines rs each, λ is. grind arith, λ is. grind arith)
answered E max f f' w w' held None now NotYet cause again remembers each = ((cause refl).0, remembers)
answered E max f f' w w' held None now End cause again remembers each = remembers
answered E max f f' w w' held None now Fault cause again remembers each = remembers
answered E max f f' w w' held None now TooLong cause again remembers each = remembers
answered E max f f' w w' held (Some end.End) now (Records rs) cause again remembers each = cc
answered E max f f' w w' held (Some end.Fault) now (Records rs) cause again remembers each = cc
answered E max f f' w w' held (Some end.TooLong) now (Records rs) cause again remembers each = cc
answered E max f f' w w' held (Some end.End) now NotYet cause again remembers each = cc
answered E max f f' w w' held (Some end.Fault) now NotYet cause again remembers each = cc
answered E max f f' w w' held (Some end.TooLong) now NotYet cause again remembers each = cc
answered E max f f' w w' held (Some e) now End cause again remembers each = remembers
answered E max f f' w w' held (Some e) now Fault cause again remembers each = remembers
answered E max f f' w w' held (Some e) now TooLong cause again remembers each = remembers

-- an end stays known
stays : {B : Type 0} (P : LineEnd → Type 0) (old new : LineSource B) (known : Option LineEnd) → line_end_of old ≡ known
    → IfSome known (λ e. P e × (new ≡ old)) → IfSome known (λ e. line_end_of new ≡ Some e)
stays P old new None is fact = fact
stays P old new (Some e) is fact = ap line_end_of fact.1 ∙ is

known_answer : {B : Type 0} (E : Type 0) (old new : LineSource B) (known : Option LineEnd) (x : Fetched) → IfSome known (λ e. (◌≡◌ {A = Result Fetched E} (Ok x) (Ok (answer_of e))) × (new ≡ old)) → IfSome known (λ e. x ≡ answer_of e)
known_answer E old new None x fact = fact
known_answer E old new (Some e) x fact = let is = fact.0 in cc

abbrev ok_of : {E : Type 0} → Fetched → Result Fetched E
ok_of x = Ok x

-- a fetch that answered
pub fetched_on : {B E : Type 0} (source : SourceOf B) (old new : LineSource B) (max : ℕ) (x : Fetched) (came : _) → came ≡ came_of x
    → Fetches source old new max (ok_of {E = E} x)
    → ReadsAsNeeded (waiting old) (waiting new) (text_of (line_end_of new) (records_of x))
    → FetchesOn max came (line_seen source old) (line_seen source new)
fetched_on {E = E} source old new max x came is f needed = rw is (record {
  reads = by_records x (reads_on source old new max (Ok x) f);
  end_stays = stays (λ e. ◌≡◌ {A = Result Fetched E} (Ok x) (Ok (answer_of e))) old new (line_end_of old) refl f.again;
  answer = answered E max _ _ _ _ (waiting new) (line_end_of old) (line_end_of new) x f.cause (known_answer E old new (line_end_of old) x f.again) f.remembers f.each_is_a_line;
  paced = paced (source.paced (line_source old)).pace f.paced;
  needed = needs x needed;
})
  where
    counts : (x : Fetched) → GivesBy (source.paced (line_source old)).given (source.paced (line_source new)) (waiting new) x → FetchGives (source.paced (line_source old)).given (line_seen source new) (came_of x)
    counts (Records rs) k = k
    counts NotYet k = k
    counts End k = k
    counts Fault k = k
    counts TooLong k = tt

    held_up : (pace : Pace) (x : Fetched) → IsHeldUpBy pace (source.paced (line_source old)) (source.paced (line_source new)) x
        → FetchIsHeldUp pace (line_seen source old) (line_seen source new) (came_of x)
    held_up pace (Records rs) k = tt
    held_up pace NotYet k = k
    held_up pace End k = tt
    held_up pace Fault k = tt
    held_up pace TooLong k = tt

    paced : (p : Option Pace) → FetchIsPacedBy {E = E} p (source.paced (line_source old)) (source.paced (line_source new)) (waiting old) (waiting new) (Ok x)
        → FetchIsPaced p (came_of x) (line_seen source old) (line_seen source new)
    paced None k = k
    paced (Some pace) k = record { kept = k.kept; counted = λ step. counts x (k.counted step); held_up = held_up pace x k.held_up }

    needs : (x : Fetched) → ReadsAsNeeded (waiting old) (waiting new) (text_of (line_end_of new) (records_of x))
        → ReadsAsNeeded (waiting old) (waiting new) (text_of (line_end_of new) (records_in_outcome (came_of x)))
    needs (Records rs) k = k
    needs NotYet k = k
    needs End k = k
    needs Fault k = k
    needs TooLong k = k

    by_records : (x : Fetched) → ReadsOn (records_of x) (line_seen source old) (line_seen source new)
        → ReadsOn (records_in_outcome (came_of x)) (line_seen source old) (line_seen source new)
    by_records (Records rs) h = h
    by_records NotYet h = h
    by_records End h = h
    by_records Fault h = h
    by_records TooLong h = h

-- a fetch for which memory was wanting
pub unread : {B E : Type 0} (source : SourceOf B) (old new : LineSource B) (max : ℕ) (e : E)
    → Fetches source old new max (Err e)
    → IsCutFetch (line_seen source old) (line_seen source new)
unread {E = E} source old new max e f = record {
  reads = reads_on source old new max (Err e) f;
  end_stays = stays (λ x. Err e ≡ Ok (answer_of x)) old new (line_end_of old) refl f.again;
  paced = paced (source.paced (line_source old)).pace f.paced;
}
  where
    paced : (p : Option Pace) → FetchIsPacedBy {E = E} p (source.paced (line_source old)) (source.paced (line_source new)) (waiting old) (waiting new) (Err e)
        → CutKeepsPace p (line_seen source old) (line_seen source new)
    paced None k = k
    paced (Some pace) k = k.kept

known_still : (end : Option LineEnd) → IfSome end (λ e. end ≡ Some e)
known_still None = tt
known_still (Some e) = refl

lines_untouched : (now : LineSeen) → IsCutFetch now now
lines_untouched now = record { reads = not_read now; end_stays = known_still now.end; paced = paced now.source.paced.pace }
  where
    paced : (p : Option Pace) → CutKeepsPace p now now
    paced None = refl
    paced (Some pace) = record { same_pace = refl; same_moment = refl; within = λ low. low; own_stays = omega arith }

merge_untouched : (now : MergeSeen) → IsCutMerge now now
merge_untouched now = record {
  reads = λ opened given before. ([], refl, rw append-nil before);
  end_stays = known_still now.end;
  waits_stay = omega arith;
  unpaced = λ none. none;
}

-- a feed that no job read
pub untouched : (now : Option FeedSeen) → Both IsCutFeed now now
untouched None = tt
untouched (Some (Single now)) = lines_untouched now
untouched (Some (Merged now)) = merge_untouched now
