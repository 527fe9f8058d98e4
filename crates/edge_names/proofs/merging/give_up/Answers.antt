use Rattle.std.proofs.Common.{map}
use Rattle.rate_gate.specs.contracts.source.GatedSourceByteSource.TheImpl.{ghosts}
use Rattle.stage_bodies.specs.Seen.{source_seen}
use Rattle.edge_names.specs.Supplies.{merged_names, under_names}
use Rattle.edge_names.proofs.Seeing.{seen_by}
use Rattle.edge_names.proofs.Merges.{up_to_any}
use Rattle.edge_names.proofs.merging.give_up.Goals as goal

pub returns-in-Ok-clause-cut_off : goal.returns-in-Ok-clause-cut_off
returns-in-Ok-clause-cut_off g c =
    let seen = seen_by g.E.Edges g.E.Source.ByteSource g.E.Sink.ByteSink in
    let feed = g.S.Supply.feeds c.args.supply.now c.args.spec.now in
    let gated = source_seen (ghosts g.row.S-Source g.S.Source.ByteSource g.S.Source.ByteSource-dict) in
    up_to_any c.args.unopened (under_names (merged_names feed) (map gated c.args.sources.items)) (seen c.args.edges.now) (seen c.back_streams.new.edges) c.in-Ok.ensures.back
