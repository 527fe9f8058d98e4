use Rattle.std.proofs.Common.{◌++◌, ◌∷◌, [], take, ap, sym, ◌∙◌, append_assoc, arith}
use Rattle.pipe_model.specs.Content.{passed}
use Rattle.plain_counts.proofs.Replies.{passed_upto}
use Rattle.plain_counts.proofs.contents.push_passed.Goals as goal

pub loop-reply-preserved : goal.loop-reply-preserved
loop-reply-preserved c =
    let xs = c.args.replies.now in
    let i = c.loop-reply.reply-index in
    c.in_ok-units.ensures
    ∙ ap (λ us. us ++ passed (c.reply-item.result ∷ [])) c.loop-reply.invariant
    ∙ append_assoc c.args.old.items (passed (take i xs)) (passed (c.reply-item.result ∷ []))
    ∙ ap (λ us. c.args.old.items ++ us) (sym (passed_upto xs i c.reply-item.result (omega arith) c.reply-item.is))
