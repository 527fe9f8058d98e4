use Rattle.journal_reading.proofs.Reading.{header_read, header_bad}
use Rattle.journal_reading.proofs.steps.read_behind.Goals as goal

pub returns-then-is_header : goal.returns-then-is_header
returns-then-is_header c = header_read c.args.topology.now c.args.first.now c.args.rest.now c.is_header.result c.read_body.result c.is_header.ensures c.if-is_header.true c.read_body.ensures

pub returns-else-is_header : goal.returns-else-is_header
returns-else-is_header c other = header_bad c.args.topology.now c.args.first.now c.args.rest.now c.is_header.result c.refused.result.line c.refused.result.fault c.is_header.ensures c.if-is_header.false c.refused.ensures.line c.refused.ensures.fault
