use Rattle.std.proofs.Common.{◌≡◌, ap, sym, ◌∙◌, None, Some}
use Rattle.std.specs.Prelude.{position}
use Rattle.dispatch_partition.proofs.Units.{of_part, taken_rest, taken_sub, none_rest, none_sub}
use Rattle.dispatch_partition.proofs.left.take_one.Goals as goal

pub returns-in_default-clause-taken : goal.returns-in_default-clause-taken
returns-in_default-clause-taken c =
    let none : position (of_part c.args.part) c.args.left.now.items ≡ None = ap (position (of_part c.args.part)) (sym c.deref.ensures.value) ∙ (sym c.place_of.ensures.first ∙ c.in_default.is) in
    none_sub c.args.part c.args.left.now.items none

pub returns-in_default-clause-rest : goal.returns-in_default-clause-rest
returns-in_default-clause-rest c = λ q.
    let none : position (of_part c.args.part) c.args.left.now.items ≡ None = ap (position (of_part c.args.part)) (sym c.deref.ensures.value) ∙ (sym c.place_of.ensures.first ∙ c.in_default.is) in
    none_rest c.args.part c.args.left.now.items none q

pub returns-clause-taken : goal.returns-clause-taken
returns-clause-taken c =
    let found : position (of_part c.args.part) c.args.left.now.items ≡ Some c.in-Some.at = ap (position (of_part c.args.part)) (sym c.deref.ensures.value) ∙ (sym c.place_of.ensures.first ∙ c.in-Some.is) in
    c.sub_of.ensures ∙ taken_sub c.args.part c.args.left.now.items c.in-Some.at c.index-room.result.now found c.index-room.ensures

pub returns-clause-rest : goal.returns-clause-rest
returns-clause-rest c = λ q.
    let found : position (of_part c.args.part) c.args.left.now.items ≡ Some c.in-Some.at = ap (position (of_part c.args.part)) (sym c.deref.ensures.value) ∙ (sym c.place_of.ensures.first ∙ c.in-Some.is) in
    taken_rest c.args.part c.args.left.now.items c.in-Some.at c.index-room.result.now c.spend.result found c.index-room.ensures c.spend.ensures q
