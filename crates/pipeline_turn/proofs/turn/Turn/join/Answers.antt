use Rattle.std.proofs.Common.{rules, ap, sym, ◌∙◌}
use mathlib.Core.Option.{none}
use Rattle.atomic_table.specs.Table.{step}
use Rattle.pipeline_turn.specs.Seats.{carried}
use Rattle.pipeline_turn.proofs.Seating.{joins_keep, settles_keep}
use Rattle.pipeline_turn.proofs.turn.Turn.join.Goals as goal

pub join_seat-requires : goal.join_seat-requires
join_seat-requires g c = let other = c.into_inner.ensures in
    let free = ap (λ z. z.holds) c.seat.view_is ∙ c.requires.idle.0.0 in let idle = ap (λ z. z.job) c.seat.view_is ∙ c.requires.idle.0.1 in
    let free' = ap (λ z. z.holds) other.view ∙ c.requires.idle.1.0 in let idle' = ap (λ z. z.job) other.view ∙ c.requires.idle.1.1 in (
      search rules,
      ap (λ z. z.turn) other.view ∙ (c.requires.of_this_turn.1 ∙ sym (ap (λ z. z.identity) c.self.view_is)),
      other.sound.carries ∙ ap carried free',
      search rules,
      joins_keep g.V.Held.steps g.V.Held.stems g.V.Held.away _ _ _ _ _ free idle free' idle' c.seat.invariant.part other.sound.part,
    )

pub load-requires : goal.load-requires
load-requires g c = let e = ap (λ m. m.0) c.join_seat.ensures.2 in
    let free = ap (λ z. z.holds) c.seat.view_is ∙ c.requires.idle.0.0 in let idle = ap (λ z. z.job) c.seat.view_is ∙ c.requires.idle.0.1 in (
      search rules,
      search rules,
      settles_keep g.V.Held.steps g.V.Held.stems g.V.Held.away _ _ _ _ (step 0 0 0 0 none) (ap (λ v. v.holds) e ∙ free) (ap (λ v. v.job) e ∙ idle),
    )
