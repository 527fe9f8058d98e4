use Rattle.std.proofs.Common.{rules, ◌≡◌, ap, sym, ◌∙◌, true, false}
use Rattle.message_ack.proofs.EndsLaws.{last_leg}
use Rattle.message_ack.proofs.legs.Legs.settle_leg.Goals as goal

pub returns-then-not-is_settled-clause-last_leg : goal.returns-then-not-is_settled-clause-last_leg
returns-then-not-is_settled-clause-last_leg c =
    let result : c.is_settled.result ≡ false = search rules in
    last_leg _ c.in_ok-sent.sent.now c.put.new.self c.args.leg c.args.end false (search rules) c.put.ensures (sym c.is_settled.ensures ∙ result)

pub returns-clause-last_leg : goal.returns-clause-last_leg
returns-clause-last_leg c =
    let result : c.is_settled.result ≡ true = search rules in
    last_leg _ c.in_ok-sent.sent.now c.put.new.self c.args.leg c.args.end true (search rules) c.put.ensures (sym c.is_settled.ensures ∙ result)
