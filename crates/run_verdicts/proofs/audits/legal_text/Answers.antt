use Rattle.run_verdicts.proofs.audits.legal_text.Goals as goal

pub returns : goal.returns
returns c = rw c.end_word-word.ensures at c.counts_text.ensures
