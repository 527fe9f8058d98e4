use Rattle.edge_names.proofs.NameLaws.{split_none, split_some}
use Rattle.edge_names.proofs.names.first_name.Goals as goal

pub returns-in-Some : goal.returns-in-Some
returns-in-Some c = split_some c.args.names.now (c.in-Some.name, c.in-Some.behind) c.in-Some.ensures.cases

pub returns-in-None : goal.returns-in-None
returns-in-None c = split_none c.args.names.now c.in-None.ensures.cases
