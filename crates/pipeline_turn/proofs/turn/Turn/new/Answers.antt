use Rattle.std.proofs.Common.{rules, sym, [], ◌∷◌, ◌≡◌, Option, Some, None, subst, List}
use Rattle.atomic_table.specs.Table.{opening}
use Rattle.pipeline_turn.specs.declared.view.Handed.{Handed}
use Rattle.pipeline_turn.specs.Rule.{IsRuled, opening_view}
use Rattle.pipeline_turn.proofs.Seating.{opens}
use Rattle.pipeline_turn.proofs.turn.Turn.new.Goals as goal

pub new-requires : goal.new-requires
new-requires g c = let h : Handed g.row.V.Denot = record { value = c.args.value; job = None } in let same : c.of.result.value ≡ c.args.value = search rules in
    let items : c.push.new.self.items ≡ Some h ∷ [] = search rules in
    let P : List (Option (Handed g.row.V.Denot)) → Type 0 = λ z. IsRuled g.V.Held.steps g.V.Held.stems g.V.Held.away c.args.parts (opening (0 ∷ 0 ∷ 0 ∷ []) z (opening_view c.args.parts (g.V.Held.start c.of.result.value))) in
    let Q : g.row.V.Denot → Type 0 = λ z. g.V.Held.stems (g.V.Held.start z) c.args.value in
    subst P (sym items) (opens g.V.Held.steps g.V.Held.stems g.V.Held.away c.args.parts (g.V.Held.start c.of.result.value) h (subst Q (sym same) c.requires.stems) c.requires.none_away)
