use Rattle.std.proofs.Common.{◌≡◌, drop}
use Rattle.line_reading.specs.Lines.{items_from, reply_at, so_far, joined}
use Rattle.line_reading.specs.Reading.{texts_of}
use Rattle.line_reading.proofs.replies.read_replies.Given as goal

-- the replies so far, and the texts that are left
abbrev pub invariant-loop-at : goal.invariant-loop-at
invariant-loop-at g l =
    joined (so_far l.bad l.replies.items) (items_from (reply_at (g.J.JobMessages.jobs l.run l.post)) l.at (drop l.at (texts_of l.texts))) ≡ items_from (reply_at (g.J.JobMessages.jobs l.run l.post)) 0 (texts_of l.texts)
