use Rattle.std.proofs.Common.{◌≡◌, ◌+◌, length, map, reverse}
use Rattle.rate_gate.specs.contracts.source.GatedSourceByteSource.TheImpl.{ghosts}
use Rattle.stage_bodies.specs.Seen.{source_seen}
use Rattle.edge_names.specs.Supplies.{merged_names}
use Rattle.edge_names.proofs.Seeing.{seen_by}
use Rattle.edge_names.proofs.Merges.{AreBackSoFar}
use Rattle.edge_names.proofs.merging.back_streams.Given as goal

abbrev pub invariant-loop-gated : goal.invariant-loop-gated
invariant-loop-gated g l =
    let seen = seen_by g.E.Edges g.E.Source.ByteSource g.E.Sink.ByteSink in
    let gated = map (source_seen (ghosts g.row.S-Source g.S.Source.ByteSource g.S.Source.ByteSource-dict)) in
    record {
      count : l.place + length l.rest.items ≡ length l.fn.sources.items;
      back : AreBackSoFar (merged_names (g.S.Supply.feeds l.fn.supply l.fn.spec)) (gated l.fn.sources.items) l.place (gated (reverse l.rest.items)) (seen l.fn.edges) (seen l.edges);
    }

abbrev pub decreases-loop-gated : goal.decreases-loop-gated
decreases-loop-gated g l = length l.rest.items
