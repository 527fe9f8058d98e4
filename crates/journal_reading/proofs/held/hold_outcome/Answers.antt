use Rattle.reading_laws.specs.Fields.{IsHeldOutcome}
use Rattle.journal_reading.proofs.held.hold_outcome.Goals as goal

pub returns-in-Successful : goal.returns-in-Successful
unfolding IsHeldOutcome
returns-in-Successful c = rw c.in-Successful.is tt

pub returns-in-Failed : goal.returns-in-Failed
unfolding IsHeldOutcome
returns-in-Failed c = rw c.in-Failed.is c.hold_reason.ensures
