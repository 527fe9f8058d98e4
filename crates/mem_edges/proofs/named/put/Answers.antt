use Rattle.mem_edges.proofs.ShelfLaws.{puts}
use Rattle.mem_edges.proofs.named.put.Goals as goal

pub returns-clause-ok : goal.returns-clause-ok
returns-clause-ok g c = rw c.in_ok-insert.ensures.items (puts c.args.name c.args.item c.args.returned c.args.shelf.now.items)
