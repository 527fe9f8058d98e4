use Rattle.box_stock.proofs.Located.{home_is}
use Rattle.box_stock.proofs.homes.home_at.Goals as goal

pub returns : goal.returns
returns g c =
    home_is c.args.topology.now (λ b. (g.C.Boxed.seen b).kind) c.args.stock.now c.args.at c.index-stock-at.result c.kind_of-kind.result c.boxes_of-before.result c.home_of.result
    c.requires.within c.index-stock-at.is c.kind_of-kind.ensures c.boxes_of-before.ensures c.home_of.ensures
