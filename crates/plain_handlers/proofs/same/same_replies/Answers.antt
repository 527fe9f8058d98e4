use Rattle.plain_handlers.proofs.Lengths.{other_replies}
use Rattle.plain_handlers.proofs.same.same_replies.Goals as goal

pub returns-then-a-b : goal.returns-then-a-b
returns-then-a-b c = other_replies c.args.a.now c.args.b.now c.if-a-b.true
