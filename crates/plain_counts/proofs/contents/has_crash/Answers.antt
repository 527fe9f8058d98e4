use Rattle.std.proofs.Common.{sym, ◌∙◌, arith}
use Rattle.plain_counts.proofs.Replies.{crash_stays, crash_comes}
use Rattle.plain_counts.proofs.contents.has_crash.Goals as goal
use Rattle.plain_counts.proofs.contents.has_crash.Goals.{then-found, else-found}

pub loop-reply-preserved : goal.loop-reply-preserved
loop-reply-preserved c =
    let xs = c.args.replies.now in
    let i = c.loop-reply.reply-index in
    elim c.if-found.branch [
      | then-found w ↦ w.found-is ∙ (w.if-found.true ∙ crash_stays xs i c.reply-item.result (omega arith) c.reply-item.is (sym c.loop-reply.invariant ∙ w.if-found.true))
      | else-found w ↦ w.found-is ∙ (w.is_crash-found.ensures ∙ crash_comes xs i c.reply-item.result (omega arith) c.reply-item.is (sym c.loop-reply.invariant ∙ w.if-found.false))
    ]
