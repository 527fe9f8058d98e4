use Rattle.std.proofs.Common.{◌≡◌, take}
use Rattle.pipe_journal.specs.Items.{records_seen}
use Rattle.pipe_journal.proofs.copies.copy_records.Given as goal

-- the copies so far
abbrev pub invariant-loop-at : goal.invariant-loop-at
invariant-loop-at l = l.copied.items ≡ take l.at (records_seen l.records)
