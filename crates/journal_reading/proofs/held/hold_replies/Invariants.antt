use Rattle.std.proofs.Common.{take}
use Rattle.pipe_journal.specs.Items.{replies_seen}
use Rattle.line_reading.specs.Spelling.{Each}
use Rattle.reading_laws.specs.Fields.{IsHeldReply}
use Rattle.journal_reading.proofs.held.hold_replies.Given as goal

-- the front
abbrev pub invariant-loop-at : goal.invariant-loop-at
invariant-loop-at l = Each IsHeldReply (take l.at (replies_seen l.replies))
