use Rattle.pipe_types.specs.declared.message.Outcome.TheVariants.{Successful}
use Rattle.reading_laws.specs.Fields.{IsHeldEnd, IsHeldOutcome}
use Rattle.journal_reading.proofs.Fronts.{each_same}
use Rattle.journal_reading.proofs.held.hold_end.Goals as goal

pub returns-in-Outcomes : goal.returns-in-Outcomes
unfolding IsHeldEnd
returns-in-Outcomes c = rw c.in-Outcomes.is c.hold_outcomes.ensures

pub returns-in-Crashed : goal.returns-in-Crashed
unfolding IsHeldEnd
returns-in-Crashed c = rw c.in-Crashed.is tt

pub returns-in-Successes : goal.returns-in-Successes
unfolding IsHeldEnd IsHeldOutcome
returns-in-Successes c = rw c.in-Successes.is (each_same IsHeldOutcome _ Successful tt)
