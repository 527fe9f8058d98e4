use Rattle.std.proofs.Common.{◌≡◌, ◌++◌, take}
use Rattle.pipe_journal.proofs.kept.Kept.add_replies.Given as goal

-- the replies so far
abbrev pub invariant-loop-reply : goal.invariant-loop-reply
invariant-loop-reply l =
    record { added : l.self.replies ≡ l.initial.self.replies ++ take l.reply-index l.replies; same : l.self.records ≡ l.initial.self.records }
