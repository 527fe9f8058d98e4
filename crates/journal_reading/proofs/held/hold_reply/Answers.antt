use Rattle.reading_laws.specs.Fields.{IsHeldReply}
use Rattle.journal_reading.proofs.held.hold_reply.Goals as goal

pub returns-in-Pass : goal.returns-in-Pass
unfolding IsHeldReply
returns-in-Pass c = rw c.in-Pass.is (c.hold_message.ensures.batcher, c.hold_message.ensures.key, c.hold_message.ensures.payload)

pub returns-in-Failed : goal.returns-in-Failed
unfolding IsHeldReply
returns-in-Failed c = rw c.in-Failed.is c.hold_reason.ensures

pub returns-in-Raised : goal.returns-in-Raised
unfolding IsHeldReply
returns-in-Raised c = rw c.in-Raised.is c.hold_reason-in-Raised.ensures

pub returns-in-Crashed : goal.returns-in-Crashed
unfolding IsHeldReply
returns-in-Crashed c = rw c.in-Crashed.is tt
