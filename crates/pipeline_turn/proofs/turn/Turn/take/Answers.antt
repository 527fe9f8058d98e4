use Rattle.std.proofs.Common.{rules, ap, sym, ◌∙◌, ◌∷◌, Some}
use mathlib.Core.Option.{none}
use Rattle.atomic_table.specs.Table.{step, rest}
use Rattle.pipeline_turn.proofs.Handing.{takes_keep}
use Rattle.pipeline_turn.proofs.turn.Turn.take.Goals as goal

pub swap-requires : goal.swap-requires
swap-requires g c = let without = ap (λ v. v.holds) c.seat.view_is ∙ c.requires.without in
    (search rules, search rules, takes_keep g.V.Held.steps g.V.Held.stems g.V.Held.away _ _ _ _ (step 0 0 1 0 none) without c.seat.invariant.part)

pub exchange-requires : goal.exchange-requires
exchange-requires g c = let t = c.swap.ensures.2.0 c.if-swap-ne0.false in let e = ap (λ m. m.1) t.1 in (search rules, (Some t.0, e ∙ sym (ap (λ z. (0, Some t.0) ∷ rest z) e)))
