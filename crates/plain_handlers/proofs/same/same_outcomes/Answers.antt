use Rattle.plain_handlers.proofs.Lengths.{other_outcomes}
use Rattle.plain_handlers.proofs.same.same_outcomes.Goals as goal

pub returns-then-a-b : goal.returns-then-a-b
returns-then-a-b c = other_outcomes c.args.a.now c.args.b.now c.if-a-b.true
