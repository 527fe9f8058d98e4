use Rattle.std.proofs.Common.{◌≡◌, ℕ, [], ap, sym, ◌∙◌, subst, replicate, None}
use Rattle.message_ack.specs.Ends.{Ends, IsSettledBy}
use Rattle.message_ack.proofs.legs.Legs.begin.Goals as goal

pub returns-then-legs-eq0-clause-successful : goal.returns-then-legs-eq0-clause-successful
returns-then-legs-eq0-clause-successful c =
    let is = c.in_ok-sent.ensures ∙ ap (λ (n : ℕ). record { messages = c.args.messages; ends = replicate n None }) c.if-legs-eq0.true in
    subst (λ (sent : Ends). IsSettledBy sent.messages [] c.into_settled.result) is (c.into_settled.ensures [] (sym (ap (λ (b : Ends). b.ends) is)))
