use Rattle.std.proofs.Common.{sym}
use Rattle.edge_names.proofs.NameLaws.{count_parts}
use Rattle.edge_names.proofs.names.count_names.Goals as goal

pub returns : goal.returns
returns c = rw (c.count_commas.ensures, c.as_bytes.ensures.value) (sym (count_parts c.args.names.now))
