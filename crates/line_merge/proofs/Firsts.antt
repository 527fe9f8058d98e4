-- What follows for the lines of a merge.
use Rattle.std.proofs.Common.{◌≡◌, ℕ, List, [], ◌++◌, refl, sym, ap, ◌∙◌}
use Rattle.std.specs.Prelude.{Option, Some, None, IsTrue, IfSome, slice_get}
use Rattle.pipe_types.specs.Lines.{lines}
use Rattle.pipe_edges.specs.declared.reading.LineEnd.{LineEnd}
use Rattle.pipe_edges.specs.declared.reading.LineEnd.TheVariants as end
use Rattle.pipe_edges.proofs.TextLaws.{lines_ended}
use Rattle.source_lines.specs.Cut.{AreFirstLines, AreAllLines}
use Rattle.source_lines.specs.Seen.{SourceSeen, LineSeen}
use Rattle.source_lines.specs.Read.{AreReadFrom}
use Rattle.line_merge.specs.Items.{lines_from}
use Rattle.line_merge.specs.Streams.{Both}
use Rattle.line_merge.specs.Seen.{MergeSeen, AreMergedFrom, IsMergeEnd}
use Rattle.std.proofs.lemmas.List.{append-nil}

not_end : (known other : Option LineEnd) → known ≡ other → ¬ (other ≡ Some end.End) → ¬ (known ≡ Some end.End)
not_end known other is differs e = differs (sym is ∙ e)

-- the records that were read are the first lines
first_of : (known : Option LineEnd) (opened : SourceSeen) (now : LineSeen) (records : List (List ℕ))
    → now.end ≡ known → AreReadFrom opened now records → IsTrue opened.told → AreFirstLines opened.left records
first_of None opened now records is r t = record {
  others = lines (now.waiting ++ now.source.left);
  parts = ap lines (r.to_come t (not_end now.end None is (λ e. cc))) ∙ lines_ended records (now.waiting ++ now.source.left) r.each_is_a_line;
}
first_of (Some end.End) opened now records is r t = record {
  others = [];
  parts = rw append-nil (sym (r.at_end t is).all);
}
first_of (Some end.Fault) opened now records is r t = record {
  others = lines (now.waiting ++ now.source.left);
  parts = ap lines (r.to_come t (not_end now.end (Some end.Fault) is (λ e. cc))) ∙ lines_ended records (now.waiting ++ now.source.left) r.each_is_a_line;
}
first_of (Some end.TooLong) opened now records is r t = record {
  others = lines (now.waiting ++ now.source.left);
  parts = ap lines (r.to_come t (not_end now.end (Some end.TooLong) is (λ e. cc))) ∙ lines_ended records (now.waiting ++ now.source.left) r.each_is_a_line;
}

first_at : (o : SourceSeen) (records : List (List ℕ)) (x : Option SourceSeen) (y : Option LineSeen) → x ≡ Some o → IsTrue o.told
    → Both (λ o lines. AreReadFrom o lines records) x y → AreFirstLines o.left records
first_at o records (Some x) (Some now) is t r = let e : x ≡ o = cc in let read : AreReadFrom o now records = rw e at r in first_of now.end o now records refl read t
first_at o records (Some x) None is t r = absurd r
first_at o records None y is t r = cc

-- the lines that were given from a place
pub first_lines : (opened : List SourceSeen) (now : MergeSeen) (given : List (ℕ × List ℕ)) (place : ℕ) (o : SourceSeen)
    → AreMergedFrom opened now given → slice_get opened place ≡ Some o → IsTrue o.told → AreFirstLines o.left (lines_from place given)
first_lines opened now given place o m there t = first_at o (lines_from place given) (slice_get opened place) (slice_get now.streams place) there t (m.each place)

-- of a place, where every source has ended
all_at : (o : SourceSeen) (records : List (List ℕ)) (x : Option SourceSeen) (y : Option LineSeen) → x ≡ Some o → IsTrue o.told
    → Both (λ o lines. AreReadFrom o lines records) x y → IfSome y (λ lines. lines.end ≡ Some end.End) → AreAllLines o.left records
all_at o records (Some x) (Some now) is t r ended = let e : x ≡ o = cc in let read : AreReadFrom o now records = rw e at r in read.at_end t ended
all_at o records (Some x) None is t r ended = absurd r
all_at o records None y is t r ended = cc

pub all_lines : (opened : List SourceSeen) (now : MergeSeen) (given : List (ℕ × List ℕ)) (place : ℕ) (o : SourceSeen)
    → AreMergedFrom opened now given → now.end ≡ Some end.End → slice_get opened place ≡ Some o → IsTrue o.told → AreAllLines o.left (lines_from place given)
all_lines opened now given place o m is there t =
    let known : IsMergeEnd now.streams (Some end.End) = rw is at m.known in
    all_at o (lines_from place given) (slice_get opened place) (slice_get now.streams place) there t (m.each place) (known place)
