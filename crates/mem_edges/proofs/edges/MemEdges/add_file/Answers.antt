use Rattle.std.proofs.Common.{refl, false}
use Rattle.mem_edges.proofs.EdgeLaws.{seen_there, file_put}
use Rattle.mem_edges.proofs.edges.MemEdges.add_file.Goals as goal

pub returns-clause-ok : goal.returns-clause-ok
returns-clause-ok c =
    let put = c.in_ok-put.ensures.ok in
    record {
      stands = seen_there (λ bytes. bytes) _ _ put.stands;
      free = put.free;
      elsewhere = file_put c.args.self.now _ c.args.name c.args.bytes false put refl refl;
    }
