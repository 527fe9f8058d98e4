use Rattle.reading_laws.specs.Fields.{IsHeld}
use Rattle.journal_reading.proofs.held.hold_step.Goals as goal

pub returns-in-Ask : goal.returns-in-Ask
unfolding IsHeld
returns-in-Ask c = rw c.in-Ask.is (c.hold_sub.ensures.consumer, c.hold_sub.ensures.producer, c.hold_sub.ensures.generation, c.hold_word.ensures)
