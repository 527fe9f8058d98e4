use Rattle.std.proofs.Common.{arith, rules}
use Rattle.pipe_journal.proofs.Extending.{more_taken, all_taken}
use Rattle.pipe_journal.proofs.kept.Kept.add_replies.Goals as goal

pub loop-reply-preserved : goal.loop-reply-preserved
loop-reply-preserved c = record {
  added = more_taken _ _ _ _ _ _ c.loop-reply-test.true c.reply-item.is c.loop-reply.invariant.added c.in_ok-add_reply.ensures.added.is;
  same = search rules;
}
