use Rattle.std.proofs.Common.{◌≡◌, ◌≤◌, length, drop}
use Rattle.pipe_types.specs.Handlers.{are_own_replies}
use Rattle.plain_handlers.proofs.replies.are_own_replies.Given as goal

abbrev pub invariant-loop-i : goal.invariant-loop-i
invariant-loop-i l = (l.i ≤ length l.replies) × (are_own_replies l.batchers (drop l.i l.messages) (drop l.i l.replies) ≡ are_own_replies l.batchers l.messages l.replies)
