use Rattle.std.proofs.Common.{◌≡◌, sym, ◌∙◌, Some, Option, subst}
use Rattle.std.specs.Prelude.{is_some, not, IfSome, if◌then◌else◌}
use Rattle.pipe_types.specs.declared.message.Loss.{Loss}
use Rattle.pipe_model.specs.Batches.{Sent, is_settled}
use Rattle.message_ack.specs.Ends.{sent_in}
use Rattle.core_laws.specs.Columns.{ends_on}
use Rattle.core_losses.specs.Legs.{lost_at, IsOpenEnd, SettledAs}
use Rattle.core_losses.proofs.LegsLost.{last_turn, ends_turn, kept_turn, not_not}
use Rattle.core_losses.proofs.legs.lose_leg.Goals as goal

pub returns-in-Some-clause-turned : goal.returns-in-Some-clause-turned
returns-in-Some-clause-turned c =
    let loss = c.in-Some.loss in
    let o : IsOpenEnd (sent_in c.args.legs.now c.args.no.0) c.args.leg = subst (λ (x : Option Loss). IfSome x (λ y. IsOpenEnd (sent_in c.args.legs.now c.args.no.0) c.args.leg)) c.in-Some.is c.requires.unended in
    λ m ls e. subst (λ (x : Option Loss). sent_in c.settle_leg.new.self c.args.no.0 ≡ ends_on m (Sent (lost_at c.args.leg x ls))) (sym c.in-Some.is)
    (kept_turn c.args.legs.now c.settle_leg.new.self c.args.no.0 c.args.leg loss c.settle_leg.result m ls o
    (last_turn c.args.legs.now c.args.no.0 c.args.leg loss c.settle_leg.result m ls o c.settle_leg.ensures.last_leg e) c.settle_leg.ensures.kept e)

pub returns-in-Some-clause-last : goal.returns-in-Some-clause-last
returns-in-Some-clause-last c =
    let loss = c.in-Some.loss in
    let o : IsOpenEnd (sent_in c.args.legs.now c.args.no.0) c.args.leg = subst (λ (x : Option Loss). IfSome x (λ y. IsOpenEnd (sent_in c.args.legs.now c.args.no.0) c.args.leg)) c.in-Some.is c.requires.unended in
    λ m ls e. subst (λ (x : Option Loss). is_some c.settle_leg.result ≡ (if is_some x then not (not (is_settled (lost_at c.args.leg x ls))) else is_some c.args.settled)) (sym c.in-Some.is)
    (last_turn c.args.legs.now c.args.no.0 c.args.leg loss c.settle_leg.result m ls o c.settle_leg.ensures.last_leg e ∙ sym (not_not (is_settled (lost_at c.args.leg (Some loss) ls))))

pub returns-in-Some-clause-ends : goal.returns-in-Some-clause-ends
returns-in-Some-clause-ends c =
    let loss = c.in-Some.loss in
    let o : IsOpenEnd (sent_in c.args.legs.now c.args.no.0) c.args.leg = subst (λ (x : Option Loss). IfSome x (λ y. IsOpenEnd (sent_in c.args.legs.now c.args.no.0) c.args.leg)) c.in-Some.is c.requires.unended in
    λ m ls e lost. subst (λ (x : Option Loss). IfSome c.settle_leg.result (SettledAs m (Sent (lost_at c.args.leg x ls)))) (sym c.in-Some.is)
    (ends_turn c.args.legs.now c.args.no.0 c.args.leg loss c.settle_leg.result m ls o c.settle_leg.ensures.settled e)
