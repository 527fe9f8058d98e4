use Rattle.std.proofs.Common.{rules, ap, ◌∙◌, ◌≤◌, subst, sym, ℕ}
use Rattle.pipeline_turn.proofs.Seating.{splits_keep}
use Rattle.pipeline_turn.proofs.turn.Turn.split.Goals as goal

pub split_seat-inner-requires : goal.split_seat-inner-requires
split_seat-inner-requires g c = let free = ap (λ v. v.holds) c.seat.view_is ∙ c.requires.idle.0 in let idle = ap (λ v. v.job) c.seat.view_is ∙ c.requires.idle.1 in
    let two = subst (λ (k : ℕ). 2 ≤ k) (sym (ap (λ v. v.parts) c.seat.view_is)) c.requires.parts in
    (search rules, search rules, splits_keep g.V.Held.steps g.V.Held.stems g.V.Held.away _ _ _ free idle two)
