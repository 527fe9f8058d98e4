use Rattle.std.proofs.Common.{◌≡◌, take}
use Rattle.pipe_journal.specs.Items.{replies_seen}
use Rattle.pipe_journal.proofs.copies.copy_replies.Given as goal

-- the copies so far
abbrev pub invariant-loop-at : goal.invariant-loop-at
invariant-loop-at l = l.copied.items ≡ take l.at (replies_seen l.replies)
