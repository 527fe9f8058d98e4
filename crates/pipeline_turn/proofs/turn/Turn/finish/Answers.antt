use Rattle.std.proofs.Common.{refl, sym, ap, ◌∙◌, ◌≡◌, subst, IfSome, IsSome, Option, []}
use mathlib.Core.Option.{some-injective}
use Rattle.pipe_model.specs.Begins.{BeginsWith}
use Rattle.pipeline_turn.specs.declared.view.Handed.{Handed}
use Rattle.pipeline_turn.proofs.Seating.{ends}
use Rattle.pipeline_turn.proofs.turn.Turn.finish.Given.{Over}
use Rattle.pipeline_turn.proofs.turn.Turn.finish.Goals.{After-of_full-value}
use Rattle.pipeline_turn.proofs.turn.Turn.finish.Goals as goal

pub of_full-value-requires : goal.of_full-value-requires
of_full-value-requires g c = let seat = c.into_inner.ensures in
    let free = ap (λ z. z.holds) seat.view ∙ c.requires.idle.0 in let idle = ap (λ z. z.job) seat.view ∙ c.requires.idle.1 in let all = ap (λ z. z.parts) seat.view ∙ (c.requires.all_parts ∙ sym (ap (λ z. z.parts) c.self.view_is)) in
    let t = ends g.V.Held.steps g.V.Held.stems g.V.Held.away _ _ _ _ _ c.close_with-closed.ensures.values.2 free idle seat.sound.part all in
    let full = some-injective _ _ (sym t.1 ∙ c.take.ensures.value) in subst IsSome full refl

-- what is handed out stems from where the seat began, begins with what it saw, and has nothing away
told : (g : Over) (c : After-of_full-value g) → g.V.Held.stems c.args.seat.origin c.of_full-value.result × BeginsWith (g.V.Held.steps c.of_full-value.result) c.args.seat.seen × (g.V.Held.away c.of_full-value.result ≡ [])
told g c = let seat = c.into_inner.ensures in
    let free = ap (λ z. z.holds) seat.view ∙ c.requires.idle.0 in let idle = ap (λ z. z.job) seat.view ∙ c.requires.idle.1 in let all = ap (λ z. z.parts) seat.view ∙ (c.requires.all_parts ∙ sym (ap (λ z. z.parts) c.self.view_is)) in
    let t = ends g.V.Held.steps g.V.Held.stems g.V.Held.away _ _ _ _ _ c.close_with-closed.ensures.values.2 free idle seat.sound.part all in
    let full = some-injective _ _ (sym t.1 ∙ c.take.ensures.value) in
    let P : Option (Handed g.row.V.Denot) → Type 0 = λ z. IfSome z (λ h. c.of_full-value.result ≡ h.value) in
    let is : c.of_full-value.result ≡ t.0.value = subst P (sym full) c.of_full-value.ensures in (
      subst (λ (z : g.row.V.Denot). g.V.Held.stems c.args.seat.origin z) (sym is) (t.2 c.args.seat.origin seat.origin),
      subst (λ (z : g.row.V.Denot). BeginsWith (g.V.Held.steps z) c.args.seat.seen) (sym is) (subst (BeginsWith (g.V.Held.steps t.0.value)) (ap (λ z. z.seen) seat.view) t.3),
      subst (λ (z : g.row.V.Denot). g.V.Held.away z ≡ []) (sym is) t.4,
    )

pub returns-clause-stems : goal.returns-clause-stems
returns-clause-stems g c = (told g (goal.at.returns-clause-stems g c).After-of_full-value).0

pub returns-clause-begins : goal.returns-clause-begins
returns-clause-begins g c = (told g (goal.at.returns-clause-begins g c).After-of_full-value).1

pub returns-clause-none_away : goal.returns-clause-none_away
returns-clause-none_away g c = (told g (goal.at.returns-clause-none_away g c).After-of_full-value).2
