use Rattle.std.proofs.Common.{rules, ap, sym, ◌∙◌, ◌∷◌, Some, IsSome, false, subst, ℕ, ◌<◌}
use mathlib.Core.Option.{none}
use Rattle.atomic_table.specs.Table.{step, rest}
use Rattle.pipeline_turn.specs.declared.view.Handed.{Handed}
use Rattle.pipeline_turn.specs.Seats.{SeatView, carried}
use Rattle.pipeline_turn.specs.Steps.{giving}
use Rattle.pipeline_turn.proofs.Handing.{gives_keep}
use Rattle.pipeline_turn.proofs.Seen.{same_seat, stems_seen, gives_seen}
use Rattle.pipeline_turn.proofs.turn.Turn.give.Goals as goal

pub swap-requires : goal.swap-requires
swap-requires g c = let h : Handed g.row.V.Denot = record { value = c.args.value; job = c.args.job } in
    let v = c.seat.inside.inner.me.0 in
    let holding = ap (λ z. z.holds) c.seat.view_is ∙ c.requires.holding in
    let empty = ap rest (c.seat.invariant.carries ∙ ap carried holding) in
    let may = gives_seen g.V.Held.steps g.V.Held.stems g.V.Held.away _ v _ _ h c.seat.view_is c.requires.begins c.requires.others_unanswered c.requires.own_job c.requires.away in
    let from = stems_seen g.V.Held.steps g.V.Held.stems g.V.Held.away _ v c.seat.inside.begun _ c.args.value c.seat.view_is c.requires.stems in (
      search rules,
      search rules,
      gives_keep g.V.Held.steps g.V.Held.stems g.V.Held.away _ _ _ _ v h (step 0 0 0 0 none) (c.exchange-was.ensures.3 ∙ (λ k. (v, (0, Some h) ∷ empty k))) holding c.seat.invariant.part may from,
    )

pub invariant_of-seat-inside : goal.invariant_of-seat-inside
invariant_of-seat-inside g c = let h : Handed g.row.V.Denot = record { value = c.args.value; job = c.args.job } in
    let empty = ap rest (c.seat.invariant.carries ∙ ap carried (ap (λ z. z.holds) c.seat.view_is ∙ c.requires.holding)) in
    let put = c.exchange-was.ensures.3 ∙ (λ k. (c.seat.inside.inner.me.0, (0, Some h) ∷ empty k)) in
    let now = c.swap.ensures.2 h (ap (λ m. m.1) put) in
    (subst IsSome (sym (ap (λ m. m.0.origin) now ∙ ap (λ m. m.0.origin) put)) c.seat.inside.begun, tt)

pub invariant_of-seat : goal.invariant_of-seat
invariant_of-seat g c = let h : Handed g.row.V.Denot = record { value = c.args.value; job = c.args.job } in
    let empty = ap rest (c.seat.invariant.carries ∙ ap carried (ap (λ z. z.holds) c.seat.view_is ∙ c.requires.holding)) in
    let put = c.exchange-was.ensures.3 ∙ (λ k. (c.seat.inside.inner.me.0, (0, Some h) ∷ empty k)) in
    let now = c.swap.ensures.2 h (ap (λ m. m.1) put) in record {
      part = subst (λ (k : ℕ). 0 < k) (sym (ap (λ m. m.0.parts) now ∙ ap (λ m. m.0.parts) put)) c.seat.invariant.part;
      settled = ap (λ m. m.0.told) now ∙ (ap (λ m. m.0.told) put ∙ c.seat.invariant.settled);
      carries = ap (λ m. m.1) now ∙ sym (ap (λ m. carried m.0.holds) now);
    }

pub returns : goal.returns
returns g c = let h : Handed g.row.V.Denot = record { value = c.args.value; job = c.args.job } in
    let empty = ap rest (c.seat.invariant.carries ∙ ap carried (ap (λ z. z.holds) c.seat.view_is ∙ c.requires.holding)) in
    let put = c.exchange-was.ensures.3 ∙ (λ k. (c.seat.inside.inner.me.0, (0, Some h) ∷ empty k)) in
    let now = c.swap.ensures.2 h (ap (λ m. m.1) put) in
    let view = ap (λ m. m.0) now ∙ ap (λ m. giving (g.V.Held.steps c.args.value) c.args.job m.0) put in
    same_seat _ _ _ (giving (g.V.Held.steps c.args.value) c.args.job c.seat.inside.inner.me.0) _ c.seat.inside.begun (c.swap.ensures.0 ∙ c.exchange-was.ensures.0) view
    ∙ ap (λ (z : SeatView g.row.V-Start.Denot). record z { seen = g.V.Held.steps c.args.value; job = c.args.job; holds = false }) c.seat.view_is
