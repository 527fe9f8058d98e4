use Rattle.journal_reading.proofs.Reading.{illegal_taken}
use Rattle.journal_reading.proofs.progress.take_illegal.Goals as goal

pub returns-in-Ok : goal.returns-in-Ok
returns-in-Ok c = illegal_taken c.args.journal.steps c.push.new.self.steps c.args.step c.in-Ok.ensures.written
