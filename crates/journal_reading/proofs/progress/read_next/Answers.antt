use Rattle.journal_reading.proofs.Reading.{legal_next}
use Rattle.journal_reading.proofs.progress.read_next.Goals as goal

pub returns-in-Legal : goal.returns-in-Legal
returns-in-Legal c topology of =
    legal_next topology c.args.progress.now c.in-Legal.run' c.journal.result.now.steps c.len.result c.args.line.now c.read_step.result c.in-Legal.is c.read_step.ensures c.len.ensures c.journal.ensures.steps
    c.journal.ensures.legal of
