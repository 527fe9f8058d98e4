use Rattle.std.proofs.Common.{take, reverse}
use Rattle.line_reading.specs.Spelling.{Each}
use Rattle.reading_laws.specs.Fields.{IsHeld}
use Rattle.journal_reading.proofs.held.hold_steps.Given as goal

-- the oldest steps
abbrev pub invariant-loop-at : goal.invariant-loop-at
invariant-loop-at l = Each IsHeld (take l.at (reverse l.journal.steps))
