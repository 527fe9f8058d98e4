use Rattle.box_stock.proofs.Filled.{filled}
use Rattle.box_stock.proofs.opened_tables_are_filled.Goals as goal

pub returns : goal.returns
returns c = filled
