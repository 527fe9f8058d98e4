use Rattle.journal_reading.proofs.Reading.{header_first, header_none}
use Rattle.journal_reading.proofs.steps.read_text.Goals as goal

pub returns-in-Some : goal.returns-in-Some
returns-in-Some c = header_first c.args.topology.now c.args.bytes.now c.in-Some.cut.front.now c.in-Some.cut.rest.now c.read_behind.result c.in-Some.ensures.some c.read_behind.ensures

pub returns-in-None : goal.returns-in-None
returns-in-None c other = header_none c.args.topology.now c.args.bytes.now c.refused.result.line c.refused.result.fault c.in-None.ensures.none c.refused.ensures.line c.refused.ensures.fault
