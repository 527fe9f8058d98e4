use Rattle.std.proofs.Common.{◌≡◌, take, drop, []}
use Rattle.pipe_types.specs.Handlers.{answer_of}
use Rattle.plain_handlers.proofs.ends.answer_by.Given as goal

abbrev pub invariant-loop-reply : goal.invariant-loop-reply
invariant-loop-reply l = answer_of l.kind (take l.reply-index l.replies) (drop l.reply-index l.replies) ≡ answer_of l.kind [] l.replies
