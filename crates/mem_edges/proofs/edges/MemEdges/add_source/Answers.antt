use Rattle.std.proofs.Common.{refl, false}
use Rattle.mem_edges.specs.MemSource.{all_bytes}
use Rattle.mem_edges.proofs.EdgeLaws.{seen_there, source_put}
use Rattle.mem_edges.proofs.edges.MemEdges.add_source.Goals as goal

pub returns-clause-ok : goal.returns-clause-ok
returns-clause-ok c =
    let put = c.in_ok-put.ensures.ok in
    record {
      stands = seen_there all_bytes _ _ put.stands;
      free = put.free;
      elsewhere = source_put c.args.self.now _ c.args.name c.args.source false put refl refl;
    }
