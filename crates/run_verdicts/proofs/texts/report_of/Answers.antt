use Rattle.run_verdicts.proofs.texts.report_of.Goals as goal

pub returns : goal.returns
returns c = let text = c.report_text.ensures in rw (c.topology.ensures, c.journal.ensures) at text
