use Rattle.std.proofs.Common.{arith}
use Rattle.pipe_journal.specs.Items.{reply_seen, replies_seen}
use Rattle.reading_laws.specs.Fields.{IsHeldReply}
use Rattle.journal_reading.proofs.Fronts.{each_more, each_taken}
use Rattle.journal_reading.proofs.held.hold_replies.Goals as goal

pub loop-at-preserved : goal.loop-at-preserved
loop-at-preserved c = each_more IsHeldReply (replies_seen c.args.replies) c.loop-at.at (reply_seen c.item.result) c.item.ensures c.hold_reply.ensures c.loop-at.invariant

pub returns : goal.returns
returns c = each_taken IsHeldReply (replies_seen c.args.replies) c.loop-at.at (omega (arith, c.len-at-end.ensures, c.loop-at-test.false)) c.loop-at.invariant
