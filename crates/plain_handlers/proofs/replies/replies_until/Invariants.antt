use Rattle.std.proofs.Common.{◌≡◌, ◌++◌, drop}
use Rattle.pipe_types.specs.Handlers.{replies_until}
use Rattle.plain_handlers.specs.Tests.{last_test}
use Rattle.plain_handlers.proofs.replies.replies_until.Given as goal

abbrev pub invariant-loop-message : goal.invariant-loop-message
invariant-loop-message l = l.replies.items ++ replies_until (last_test l.crash_alone) l.spec l.seen (drop l.message-index l.messages) ≡ replies_until (last_test l.crash_alone) l.spec l.count l.messages
