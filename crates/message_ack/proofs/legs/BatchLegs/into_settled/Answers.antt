use Rattle.std.proofs.Common.{rules, ◌≡◌, ℕ, List, length, ap, sym, ◌∙◌, subst, if◌then◌else◌, Some, None}
use Rattle.std.specs.Prelude.{nat_lt}
use Rattle.pipe_types.specs.declared.message.Outcome.{Outcome}
use Rattle.message_ack.specs.declared.legs.Settled.TheVariants.{Outcomes}
use Rattle.message_ack.specs.Ends.{Ends, loss_of_ends, outcome_of_ends, IsSettledBy}
use Rattle.message_ack.proofs.EndsLaws.{settled_lost, settled_outcomes}
use Rattle.message_ack.proofs.legs.BatchLegs.into_settled.Goals as goal

pub returns-in-Some : goal.returns-in-Some
returns-in-Some c legs e =
    let same = c.deref.ensures.value ∙ ap (λ (b : Ends). b.ends) c.self.view_is in
    settled_lost c.args.self.messages legs c.args.self.ends c.in-Some.loss e (ap loss_of_ends (sym same) ∙ (sym c.least_loss.ensures ∙ c.in-Some.is))

pub returns : goal.returns
returns c legs e =
    let same = c.deref.ensures.value ∙ ap (λ (b : Ends). b.ends) c.self.view_is in
    let same-2 = c.deref-2.ensures.value ∙ ap (λ (b : Ends). b.ends) c.self.view_is in
    let several : ¬ (length c.self.inside.ends.items ≡ 1) = search rules in
    let len = c.self.invariant.1 several ∙ ap (λ (b : Ends). b.messages) c.self.view_is in
    subst (λ (os : List Outcome). IsSettledBy c.args.self.messages legs (Outcomes os)) (sym c.from_vec.ensures)
    (settled_outcomes c.args.self.messages legs c.args.self.ends _ e (ap loss_of_ends (sym same) ∙ (sym c.least_loss.ensures ∙ c.in_default.is))
    (λ i. c.put_outcomes.ensures i ∙ (λ j. if nat_lt i (len j) then Some (outcome_of_ends (same-2 j) i) else None)))
