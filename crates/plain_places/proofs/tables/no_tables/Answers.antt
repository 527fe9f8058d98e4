use Rattle.std.proofs.Common.{rules}
use Rattle.plain_places.proofs.Changed.{stand_first}
use Rattle.plain_places.proofs.tables.no_tables.Goals as goal

pub returns : goal.returns
returns c = λ topology. stand_first topology _ (search rules) (search rules) (search rules)
