use Rattle.std.proofs.Common.{[], ◌∷◌, ◌++◌, Option, Some, ap, ◌∙◌}
use Rattle.message_ack.specs.declared.legs.LegEnd.{LegEnd}
use Rattle.message_ack.proofs.EndsLaws.{alone_answered, alone_lost}
use Rattle.message_ack.proofs.legs.settled_alone.Goals as goal

pub returns-in-Some-Some-Answered : goal.returns-in-Some-Some-Answered
returns-in-Some-Some-Answered c =
    alone_answered c.args.messages c.args.ends.now.items c.pop.new.self.items c.in-Some-Some-Answered.outcomes
    (c.in-Some-Some-Answered.ensures.items
    ∙ ap (λ (end : Option LegEnd). c.pop.new.self.items ++ end ∷ []) (c.in-Some-Some-Answered.field-0-is ∙ ap Some c.in-Some-Some-Answered.field-0-0-is))
    c.requires.alone c.requires.outcomes

pub returns-in-Some-Some-Lost : goal.returns-in-Some-Some-Lost
returns-in-Some-Some-Lost c =
    alone_lost c.args.messages c.args.ends.now.items c.pop.new.self.items c.in-Some-Some-Lost.loss
    (c.in-Some-Some-Lost.ensures.items
    ∙ ap (λ (end : Option LegEnd). c.pop.new.self.items ++ end ∷ []) (c.in-Some-Some-Lost.field-0-is ∙ ap Some c.in-Some-Some-Lost.field-0-0-is))
    c.requires.alone
