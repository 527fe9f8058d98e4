use Rattle.std.proofs.Common.{◌∙◌, arith}
use Rattle.plain_handlers.proofs.Lengths.{no_reply, all_replied}
use Rattle.plain_handlers.proofs.replies.are_own_replies.Goals as goal

pub returns-then-replies-i : goal.returns-then-replies-i
returns-then-replies-i c =
    no_reply c.args.batchers c.args.messages.now c.args.replies.now c.loop-i.i (omega arith) (omega arith) ∙ c.loop-i.invariant.1

pub returns : goal.returns
returns c =
    all_replied c.args.batchers c.args.messages.now c.args.replies.now c.loop-i.i (omega arith) (omega arith) (omega (arith, c.loop-i.invariant.0)) ∙ c.loop-i.invariant.1
