use Rattle.std.proofs.Common.{◌≡◌, drop, ◌∙◌, arith, ap, sym, Bool, [], Some}
use Rattle.std.specs.List.{list_all}
use Rattle.std.proofs.lemmas.List.{drop_all}
use Rattle.pipe_types.specs.declared.message.Place.{Place}
use Rattle.pipe_model.specs.Moves.{is_final}
use Rattle.plain_run.proofs.Placing.{all_from}
use Rattle.plain_run.proofs.standing.are_final.Goals as goal

abbrev final : Place → Bool
final p = is_final (Some p)

pub returns-then-not-is_settled : goal.returns-then-not-is_settled
returns-then-not-is_settled c = sym (all_from final c.args.places.now.items c.loop-at.at c.read.result _ c.read.ensures (sym c.is_settled.ensures ∙ c.if-not-is_settled.true)) ∙ c.loop-at.invariant

pub loop-at-preserved : goal.loop-at-preserved
loop-at-preserved c = sym (all_from final c.args.places.now.items c.loop-at.at c.read.result _ c.read.ensures (sym c.is_settled.ensures ∙ c.if-not-is_settled.false)) ∙ c.loop-at.invariant

pub returns : goal.returns
returns c =
    let none : drop c.loop-at.at c.args.places.now.items ≡ [] = drop_all c.loop-at.at c.args.places.now.items (omega arith) in
    ap (list_all final) (sym none) ∙ c.loop-at.invariant
