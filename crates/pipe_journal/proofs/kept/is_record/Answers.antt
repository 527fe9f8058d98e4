use Rattle.std.proofs.Common.{arith}
use Rattle.pipe_journal.proofs.kept.is_record.Goals as goal

pub returns : goal.returns
returns c = λ yes. record { least = omega arith; is = c.is_at.ensures yes }
