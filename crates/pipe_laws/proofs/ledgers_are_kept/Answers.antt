use Rattle.pipe_laws.proofs.Ledgers.{keeps_ledger}
use Rattle.pipe_laws.proofs.ledgers_are_kept.Goals as goal

pub returns : goal.returns
returns c = keeps_ledger
