use Rattle.std.proofs.Common.{◌≡◌, length, take}
use Rattle.stage_bodies.specs.Seen.{body_at}
use Rattle.edge_names.specs.Supplies.{at_paces}
use Rattle.edge_names.specs.Opened.{Asks, AreHome, AreOpened, calls_of}
use Rattle.edge_names.specs.Returned.{KeepsCallbacks}
use Rattle.edge_names.proofs.Seeing.{seen_by}
use Rattle.edge_names.proofs.opening.open_stages.Given as goal

abbrev pub invariant-loop-spec : goal.invariant-loop-spec
invariant-loop-spec g l =
    let feeds = at_paces l.fn.topology (g.S.Supply.feeds l.fn.supply) in
    let seen = seen_by g.E.Edges g.E.Source.ByteSource g.E.Sink.ByteSink in
    record {
      len : length l.bodies.items ≡ length l.fn.bodies.items;
      home : AreHome feeds l.fn.topology (body_at g.B.Works.look l.bodies.items);
      asks : Asks (calls_of feeds (take l.spec-index l.fn.topology.stages)) (seen l.fn.edges) (seen l.edges);
      callbacks : KeepsCallbacks (body_at g.B.Works.look l.fn.bodies.items) (body_at g.B.Works.look l.bodies.items);
      opened : AreOpened feeds l.fn.topology l.spec-index (seen l.fn.edges) (body_at g.B.Works.look l.fn.bodies.items) (body_at g.B.Works.look l.bodies.items);
    }
