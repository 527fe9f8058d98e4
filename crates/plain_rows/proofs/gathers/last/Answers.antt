use Rattle.std.proofs.Common.{arith}
use Rattle.plain_rows.proofs.Lasts.{last_upto}
use Rattle.plain_rows.proofs.gathers.last.Goals as goal

pub loop-n-preserved : goal.loop-n-preserved
loop-n-preserved c = last_upto c.args.numbers.now c.loop-n.n-index (omega arith)
