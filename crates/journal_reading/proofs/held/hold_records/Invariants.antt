use Rattle.std.proofs.Common.{take}
use Rattle.pipe_journal.specs.Items.{records_seen}
use Rattle.line_reading.specs.Spelling.{Each}
use Rattle.reading_laws.specs.Fields.{AreBytes}
use Rattle.journal_reading.proofs.held.hold_records.Given as goal

-- the front
abbrev pub invariant-loop-at : goal.invariant-loop-at
invariant-loop-at l = Each AreBytes (take l.at (records_seen l.records))
