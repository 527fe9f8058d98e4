-- What is taken out of a feed.
use Rattle.std.proofs.Common.{◌≡◌, List, [], ◌∷◌, map, refl, ap, ◌∙◌}
use Rattle.pipe_edges.specs.declared.source.ByteSource.{Ghosts as SourceOf}
use Rattle.pipe_edges.specs.LineSource.{line_source}
use Rattle.line_merge.specs.Streams.{lines_of, sources_of}
use Rattle.line_merge.specs.declared.stream.Stream.{Stream}
use Rattle.line_merge.specs.declared.merge.LineMerge.{LineMerge}
use Rattle.stage_bodies.specs.Seen.{LineSeen, source_seen, line_seen, merge_seen, Merged, ManySources, sources_out}

same_sources : {S : Type 0} (source : SourceOf S) (streams : List (Stream S))
    → map (source_seen source) (map (λ (s : Stream S). line_source (lines_of s)) streams) ≡ map (λ (lines : LineSeen). lines.source) (map (λ (s : Stream S). line_seen source (lines_of s)) streams)
same_sources source [] = refl
same_sources source (s ∷ streams) = ap (λ seen. source_seen source (line_source (lines_of s)) ∷ seen) (same_sources source streams)

-- the sources of a merge, as they were
pub many_out : {S : Type 0} (source : SourceOf S) (merge : LineMerge S) (back : List S) → back ≡ sources_of merge → ManySources (map (source_seen source) back) ≡ sources_out (Merged (merge_seen source merge))
many_out source merge back is = ap (λ bs. ManySources (map (source_seen source) bs)) is ∙ ap ManySources (same_sources source merge.streams.items)
