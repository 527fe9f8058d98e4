-- What contracts see of a merge: plain data.
use Rattle.std.specs.Prelude.{◌≡◌, ◌<◌, ℕ, List, ◌++◌, length, map, slice_get, All, Option, Some, None, IfSome, IsSomeAnd}
use Rattle.std.specs.List.{sum_by}
use Rattle.pipe_edges.specs.declared.source.ByteSource.{Ghosts as SourceOf}
use Rattle.pipe_edges.specs.Paces.{unpaced}
use Rattle.pipe_edges.specs.declared.reading.LineEnd.{LineEnd}
use Rattle.pipe_edges.specs.declared.reading.LineEnd.TheVariants as line_end
use Rattle.source_lines.specs.Seen.{SourceSeen, LineSeen, line_seen}
use Rattle.source_lines.specs.Read.{AreReadFrom}
use Rattle.line_merge.specs.Items.{lines_from}
use Rattle.line_merge.specs.Streams.{Both, lines_of, merge_end_of}
use Rattle.line_merge.specs.declared.merge.LineMerge.{LineMerge}
use Rattle.line_merge.specs.declared.item.MergeEnd.{MergeEnd}
use Rattle.line_merge.specs.declared.item.MergeEnd.TheVariants.{End, Fault, TooLong}

-- its sources with their lines, and why no more come
pub record MergeSeen : Type 0 where
  pub streams : List LineSeen
  pub end : Option LineEnd

abbrev pub end_seen : Option MergeEnd → Option LineEnd
end_seen None = None
end_seen (Some End) = Some line_end.End
end_seen (Some (Fault place)) = Some line_end.Fault
end_seen (Some (TooLong place)) = Some line_end.TooLong

abbrev pub merge_seen : {B : Type 0} → SourceOf B → LineMerge B → MergeSeen
merge_seen source m = record { streams = map (λ s. line_seen source (lines_of s)) m.streams.items; end = end_seen (merge_end_of m) }

-- how often nothing was ready, all sources together
abbrev pub waits_together : MergeSeen → ℕ
waits_together m = sum_by (λ lines. lines.source.waits) m.streams

-- no source has a pace
abbrev pub AreUnpaced : MergeSeen → Type 0
AreUnpaced m = (k : ℕ) → IfSome (slice_get m.streams k) (λ lines. lines.source.paced ≡ unpaced)

-- why no more lines come: each source has ended, or one has failed, or one has a line that is too long
abbrev pub IsMergeEnd : List LineSeen → Option LineEnd → Type 0
IsMergeEnd streams None = Unit {0}
IsMergeEnd streams (Some line_end.End) = (k : ℕ) → IfSome (slice_get streams k) (λ lines. lines.end ≡ Some line_end.End)
IsMergeEnd streams (Some e) = (k : ℕ) × IsSomeAnd (slice_get streams k) (λ lines. lines.end ≡ Some e)

-- the lines with their places came from what the opened sources had left: each has the place of one of them, and of each place
-- they are, in order, what was read of its source
pub record AreMergedFrom (opened : List SourceSeen) (now : MergeSeen) (given : List (ℕ × List ℕ)) : Type 0 where
  pub placed : All (λ d. d.0 < length opened) given
  pub each : (k : ℕ) → Both (λ o lines. AreReadFrom o lines (lines_from k given)) (slice_get opened k) (slice_get now.streams k)
  pub known : IsMergeEnd now.streams now.end

-- these records, each with its place, follow those that were read before
abbrev pub MergeReadsOn : (records : List (List ℕ)) → (old new : MergeSeen) → Type 0
MergeReadsOn records old new =
    (opened : List SourceSeen) (given : List (ℕ × List ℕ)) → AreMergedFrom opened old given
    → (more : List (ℕ × List ℕ)) × (map (λ d. d.1) more ≡ records) × AreMergedFrom opened new (given ++ more)
