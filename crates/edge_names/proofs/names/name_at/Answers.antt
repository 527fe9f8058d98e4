use Rattle.std.proofs.Common.{◌≡◌, ◌∷◌, [], rules, arith}
use Rattle.config_rule.specs.SourceText.{parts}
use Rattle.edge_names.proofs.NameLaws.{next_place, no_place, this_place}
use Rattle.edge_names.proofs.names.name_at.Goals as goal

pub returns-in-None : goal.returns-in-None
returns-in-None c =
    let cut : parts c.loop.rest.now ≡ c.first_name.result.0.now ∷ [] = rw c.in-None.is at c.first_name.ensures in
    no_place c.args.names.now c.loop.rest.now c.first_name.result.0.now c.loop.counter c.args.place c.loop.invariant.1 cut c.loop-test.true

pub loop-preserved : goal.loop-preserved
loop-preserved c =
    let cut : parts c.loop.rest.now ≡ c.first_name.result.0.now ∷ parts c.in-Some.behind.now = rw c.in-Some.is at c.first_name.ensures in
    (search rules, next_place c.args.names.now c.loop.rest.now c.first_name.result.0.now c.in-Some.behind.now c.loop.counter c.loop.invariant.1 cut)

pub returns : goal.returns
returns c =
    let last = c.loop-test.false in
    let end = c.loop.auto.counter-end in
    let same : c.loop.counter ≡ c.args.place = omega (arith, last, end) in
    this_place c.args.names.now c.loop.rest.now c.first_name-2.result.0.now _ c.args.place (rw same at c.loop.invariant.1) c.first_name-2.ensures
