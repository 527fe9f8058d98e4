use Rattle.std.proofs.Common.{◌≡◌, ◌++◌, drop, map}
use Rattle.pipe_types.specs.Handlers.{replies_until, is_crashed, with_reason, chunk_replies}
use Rattle.plain_handlers.proofs.replies.chunk_replies.Given as goal

abbrev pub invariant-loop-message : goal.invariant-loop-message
invariant-loop-message l = l.replies.items ++ map (with_reason l.spec.failed) (replies_until is_crashed l.spec l.seen (drop l.message-index l.messages)) ≡ chunk_replies l.spec l.count l.messages
