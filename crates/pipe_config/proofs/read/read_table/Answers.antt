use Rattle.std.proofs.Common.{arith}
use Rattle.toml.specs.View.{table_view}
use Rattle.pipe_config.proofs.Table.{text_table}
use Rattle.pipe_config.proofs.read.read_table.Goals as goal

pub returns-in-Ok-clause-ok : goal.returns-in-Ok-clause-ok
returns-in-Ok-clause-ok c = text_table c.args.bytes.now (table_view c.in-Ok.table) (omega arith) c.in-Ok.ensures.ok
