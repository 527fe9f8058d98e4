-- A fetch of a merge as it is seen.
use Rattle.std.proofs.Common.{◌≡◌, ◌≤◌, ℕ, List, [], ◌∷◌, length, refl, ap, sym, ◌∙◌, arith}
use Rattle.std.specs.Prelude.{Option, Some, None, Result, Ok, Err, IfSome, IfOk, IsNone, All}
use Rattle.std.proofs.lemmas.List.Elements.{All-nil, All-cons, All-head, All-tail}
use Rattle.pipe_types.specs.Lines.{max_bytes}
use Rattle.pipe_edges.specs.Texts.{IsLine}
use Rattle.pipe_edges.specs.Fetch.{records_of, records_in}
use Rattle.pipe_edges.specs.declared.source.ByteSource.{Ghosts as SourceOf}
use Rattle.pipe_edges.specs.declared.reading.LineEnd.{LineEnd}
use Rattle.pipe_edges.specs.declared.reading.LineEnd.TheVariants as end
use Rattle.pipe_edges.specs.declared.reading.Fetched.{Fetched}
use Rattle.pipe_edges.specs.declared.reading.Fetched.TheVariants as fetched
use Rattle.line_merge.specs.Streams.{stream_at, merge_end_of}
use Rattle.line_merge.specs.Seen.{MergeSeen, AreUnpaced, MergeReadsOn, merge_seen, waits_together, end_seen}
use Rattle.line_merge.specs.Fetch.{FetchHasCause, FetchRises, Remembers, answer_to}
use Rattle.line_merge.specs.declared.merge.LineMerge.{LineMerge}
use Rattle.line_merge.specs.declared.item.MergeEnd.{MergeEnd}
use Rattle.line_merge.specs.declared.item.MergeEnd.TheVariants as merge_end
use Rattle.stage_bodies.specs.Jobs.{FetchesMerge, IsMergeFetched, IsCutMerge, records_of as records_in_outcome}
use Rattle.body_jobs.specs.Fetched.{came_of}

-- what a fetch of a merge promises
pub record FetchedMerge {B E : Type 0} (source : SourceOf B) (old new : LineMerge B) (result : Result Fetched E) : Type 0 where
  pub merged : MergeReadsOn (records_in result) (merge_seen source old) (merge_seen source new)
  pub each_is_a_line : All IsLine (records_in result)
  pub cause : IfOk result (λ x. IsNone (merge_end_of old) → FetchHasCause source (stream_at old) (stream_at new) x)
  pub rises : IfOk result (λ x. FetchRises x (waits_together (merge_seen source old)) (waits_together (merge_seen source new)))
  pub remembers : IfOk result (λ x. Remembers (merge_end_of new) x)
  pub again : IfSome (merge_end_of old) (λ e. IfOk result (λ x. x ≡ answer_to e) × (new ≡ old))
  pub waits_stay : waits_together (merge_seen source old) ≤ waits_together (merge_seen source new)
  pub unpaced : AreUnpaced (merge_seen source old) → AreUnpaced (merge_seen source new)

abbrev ok_of : {E : Type 0} → Fetched → Result Fetched E
ok_of x = Ok x

short_lines : (records : List (List ℕ)) → All IsLine records → All (λ r. length r ≤ max_bytes) records
short_lines [] each = All-nil (λ r. length r ≤ max_bytes)
short_lines (r ∷ rs) each = All-cons (λ r. length r ≤ max_bytes) r rs (All-head IsLine r rs each).short (short_lines rs (All-tail IsLine r rs each))

-- an end that is known stays known
stays : {B : Type 0} (P : MergeEnd → Type 0) (old new : LineMerge B) (known : Option MergeEnd) → merge_end_of old ≡ known
    → IfSome known (λ e. P e × (new ≡ old)) → IfSome (end_seen known) (λ e. end_seen (merge_end_of new) ≡ Some e)
stays P old new None is fact = tt
stays P old new (Some merge_end.End) is fact = ap (λ m. end_seen (merge_end_of m)) fact.1 ∙ ap end_seen is
stays P old new (Some (merge_end.Fault k)) is fact = ap (λ m. end_seen (merge_end_of m)) fact.1 ∙ ap end_seen is
stays P old new (Some (merge_end.TooLong k)) is fact = ap (λ m. end_seen (merge_end_of m)) fact.1 ∙ ap end_seen is

-- records are one line
one_line : {B : Type 0} (source : SourceOf B) (old new : LineMerge B) (rs : List (List ℕ)) (known : Option MergeEnd) → merge_end_of old ≡ known
    → (IsNone (merge_end_of old) → FetchHasCause source (stream_at old) (stream_at new) (fetched.Records rs))
    → IfSome known (λ e. (fetched.Records rs ≡ answer_to e) × (new ≡ old)) → length rs ≡ 1
one_line source old new rs None is cause again = cause (rw is refl)
one_line source old new rs (Some merge_end.End) is cause again = let e = again.0 in cc
one_line source old new rs (Some (merge_end.Fault k)) is cause again = let e = again.0 in cc
one_line source old new rs (Some (merge_end.TooLong k)) is cause again = let e = again.0 in cc

not_ended : (now : Option MergeEnd) (e : LineEnd) → now ≡ None → ¬ (end_seen now ≡ Some e)
not_ended now e none is = let wrong : None ≡ Some e = sym (ap end_seen none) ∙ is in cc

answered : {B : Type 0} (E : Type 0) (source : SourceOf B) (old new : LineMerge B) (x : Fetched) → FetchedMerge source old new (ok_of {E = E} x)
    → IsMergeFetched (merge_seen source old) (merge_seen source new) (came_of x)
answered E source old new (fetched.Records rs) f =
    (one_line source old new rs (merge_end_of old) refl f.cause f.again, short_lines rs f.each_is_a_line, not_ended (merge_end_of new) end.Fault f.remembers, not_ended (merge_end_of new) end.TooLong f.remembers)
answered E source old new fetched.NotYet f = (f.rises, ap end_seen f.remembers)
answered E source old new fetched.End f = ap end_seen f.remembers
answered E source old new fetched.Fault f = ap end_seen f.remembers.1
answered E source old new fetched.TooLong f = ap end_seen f.remembers.1

-- a fetch that answered
pub merge_fetched : {B : Type 0} (E : Type 0) (source : SourceOf B) (old new : LineMerge B) (x : Fetched) (came : _) → came ≡ came_of x
    → FetchedMerge source old new (ok_of {E = E} x) → FetchesMerge came (merge_seen source old) (merge_seen source new)
merge_fetched E source old new x came is f = rw is (record {
  reads = by_records x f.merged;
  end_stays = stays (λ e. x ≡ answer_to e) old new (merge_end_of old) refl f.again;
  answer = answered E source old new x f;
  waits_stay = f.waits_stay;
  unpaced = f.unpaced;
})
  where
    by_records : (x : Fetched) → MergeReadsOn (records_of x) (merge_seen source old) (merge_seen source new) → MergeReadsOn (records_in_outcome (came_of x)) (merge_seen source old) (merge_seen source new)
    by_records (fetched.Records rs) h = h
    by_records fetched.NotYet h = h
    by_records fetched.End h = h
    by_records fetched.Fault h = h
    by_records fetched.TooLong h = h

abbrev err_of : {E : Type 0} → E → Result Fetched E
err_of e = Err e

-- a fetch for which memory was wanting
pub merge_unread : {B E : Type 0} (source : SourceOf B) (old new : LineMerge B) (e : E) → FetchedMerge source old new (err_of e) → IsCutMerge (merge_seen source old) (merge_seen source new)
merge_unread source old new e f = record {
  reads = f.merged;
  end_stays = stays (λ e. Unit {0}) old new (merge_end_of old) refl f.again;
  waits_stay = f.waits_stay;
  unpaced = f.unpaced;
}
