use Rattle.mem_edges.proofs.ShelfLaws.{opens_read}
use Rattle.mem_edges.proofs.opening.open_at.Goals as goal

pub returns : goal.returns
returns g c =
    opens_read c.args.name.now c.args.shelf.now.items c.args.at c.index_mut-named.result.now c.index_mut-named.ensures.value c.requires
