use Rattle.std.proofs.Common.{◌≡◌, ◌∷◌, [], ◌++◌, sym, ap, ◌∙◌, List}
use Rattle.pipe_types.specs.declared.message.Reply.{Reply}
use Rattle.pipe_journal.specs.Items.{reply_seen, replies_seen}
use Rattle.pipe_journal.proofs.Walks.{one_more}
use Rattle.pipe_journal.proofs.copies.copy_replies.Goals as goal

pub loop-at-preserved : goal.loop-at-preserved
loop-at-preserved c =
    c.in_ok-push.ensures.items
    ∙ ap (λ (reply : Reply). c.loop-at.copied.items ++ reply ∷ []) c.in_ok-copy_reply.ensures
    ∙ ap (λ (replies : List Reply). replies ++ reply_seen c.item.result ∷ []) c.loop-at.invariant
    ∙ sym (one_more (replies_seen c.args.replies) c.loop-at.at (reply_seen c.item.result) c.item.ensures)
