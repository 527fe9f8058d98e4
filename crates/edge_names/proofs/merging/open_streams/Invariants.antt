use Rattle.std.proofs.Common.{◌≡◌, ◌≤◌, length, map, vec_capacity}
use Rattle.rate_gate.specs.contracts.source.GatedSourceByteSource.TheImpl.{ghosts}
use Rattle.stage_bodies.specs.Seen.{source_seen}
use Rattle.edge_names.specs.Supplies.{merged_names}
use Rattle.edge_names.proofs.Seeing.{seen_by}
use Rattle.edge_names.proofs.Merges.{AreOpenedUpTo}
use Rattle.edge_names.proofs.merging.open_streams.Given as goal

abbrev pub invariant-loop-place : goal.invariant-loop-place
invariant-loop-place g l =
    let seen = seen_by g.E.Edges g.E.Source.ByteSource g.E.Sink.ByteSink in
    let names = merged_names (g.S.Supply.feeds l.fn.supply l.fn.spec) in
    let gated = source_seen (ghosts g.row.S-Source g.S.Source.ByteSource g.S.Source.ByteSource-dict) in
    record {
      len : length l.sources.items ≡ l.place;
      room : l.fn.count ≤ vec_capacity l.sources;
      opened : AreOpenedUpTo names l.place (map gated l.sources.items) (seen l.fn.edges) (seen l.edges);
    }
