use Rattle.std.proofs.Common.{refl}
use Rattle.reading_laws.proofs.Texts.{text_again}
use Rattle.journal_reading.specs.Faults.{unjudged}
use Rattle.journal_reading.proofs.laws.journals_are_read_back.Goals as goal

pub returns-clause-again : goal.returns-clause-again
returns-clause-again c topology behind legal =
    let held = c.hold_steps.ensures in
    text_again unjudged refl topology c.args.journal.now.steps behind legal held.held held.countable
