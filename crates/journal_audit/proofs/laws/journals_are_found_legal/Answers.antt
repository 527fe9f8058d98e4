use Rattle.std.proofs.Common.{refl, ap}
use Rattle.reading_laws.proofs.Texts.{text_again}
use Rattle.journal_audit.specs.Causes.{judged}
use Rattle.journal_audit.specs.Verdicts.{verdict_by}
use Rattle.journal_audit.proofs.laws.journals_are_found_legal.Goals as goal

pub returns : goal.returns
returns c topology behind legal =
    let held = c.journals_are_read_back.ensures in
    ap (verdict_by topology) (text_again judged refl topology c.args.journal.now.steps behind legal held.held held.countable)
