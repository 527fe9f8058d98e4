use Rattle.pipe_journal.proofs.Keeping.{kept_raised}
use Rattle.pipe_journal.proofs.kept.keep_raised.Goals as goal

pub returns-clause-kept : goal.returns-clause-kept
returns-clause-kept c = λ records words. kept_raised records words _ _ _ c.in_ok-why.ensures.kept
