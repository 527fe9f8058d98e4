use Rattle.std.proofs.Common.{refl, false}
use Rattle.mem_edges.specs.MemSink.{held_by}
use Rattle.mem_edges.proofs.EdgeLaws.{seen_there, sink_put}
use Rattle.mem_edges.proofs.edges.MemEdges.add_sink.Goals as goal

pub returns-clause-ok : goal.returns-clause-ok
returns-clause-ok c =
    record {
      stands = seen_there held_by _ _ c.in_ok-put.ensures.ok.stands;
      free = c.in_ok-put.ensures.ok.free;
      elsewhere = sink_put c.args.self.now _ c.args.name c.args.sink false c.in_ok-put.ensures.ok refl refl;
    }
