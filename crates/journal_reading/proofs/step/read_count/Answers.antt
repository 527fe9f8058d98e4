use Rattle.std.proofs.Common.{arith}
use Rattle.journal_reading.proofs.Reading.{end_found, end_other}
use Rattle.journal_reading.proofs.step.read_count.Goals as goal

pub returns-then-is_number : goal.returns-then-is_number
returns-then-is_number c = end_found c.args.number.now c.args.steps c.is_number.result (omega (arith, c.ranges.steps.fits)) c.is_number.ensures c.if-is_number.true

pub returns-else-is_number : goal.returns-else-is_number
returns-else-is_number c = end_other c.args.number.now c.args.steps c.is_number.result c.is_number.ensures c.if-is_number.false
