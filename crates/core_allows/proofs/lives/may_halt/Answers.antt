use Rattle.std.proofs.Common.{◌≡◌, drop, ◌∙◌, arith, ap, sym, Bool, []}
use Rattle.std.specs.List.{list_any}
use Rattle.std.proofs.lemmas.List.{drop_all}
use Rattle.pipe_types.specs.declared.topology.StageSpec.{StageSpec}
use Rattle.core_allows.specs.Lives.{does_halt}
use Rattle.core_rows.proofs.Finding.{any_here, any_next, stage_there}
use Rattle.core_allows.proofs.lives.may_halt.Goals as goal

pub is_over_limit-requires-clause-there : goal.is_over_limit-requires-clause-there
is_over_limit-requires-clause-there c =
    stage_there c.args.core.now.topology c.as_slice-spec-items.result.now c.loop-spec.spec-index c.spec-item.result c.requires.stands.holds.sound c.as_slice-spec-items.ensures c.loop-spec-test.true c.spec-item.is

pub returns-then-is_over_limit : goal.returns-then-is_over_limit
returns-then-is_over_limit c =
    let test : StageSpec → Bool = does_halt c.args.core.now.topology c.args.core.now.journal.steps in
    let specs = c.as_slice-spec-items.result.now in
    let here = ap test (sym c.spec-item.is) ∙ (sym c.is_over_limit.ensures ∙ c.if-is_over_limit.true) in
    sym (any_here test specs c.loop-spec.spec-index c.spec-item.result c.loop-spec-test.true here) ∙ (c.loop-spec.invariant ∙ ap (list_any test) c.as_slice-spec-items.ensures)

pub loop-spec-preserved : goal.loop-spec-preserved
loop-spec-preserved c =
    let test : StageSpec → Bool = does_halt c.args.core.now.topology c.args.core.now.journal.steps in
    let here = ap test (sym c.spec-item.is) ∙ (sym c.is_over_limit.ensures ∙ c.if-is_over_limit.false) in
    any_next test c.as_slice-spec-items.result.now c.loop-spec.spec-index c.spec-item.result c.loop-spec-test.true here ∙ c.loop-spec.invariant

pub returns : goal.returns
returns c =
    let test : StageSpec → Bool = does_halt c.args.core.now.topology c.args.core.now.journal.steps in
    let none : drop c.loop-spec.spec-index c.as_slice-spec-items.result.now ≡ [] = drop_all c.loop-spec.spec-index c.as_slice-spec-items.result.now (omega arith) in
    ap (list_any test) (sym none) ∙ (c.loop-spec.invariant ∙ ap (list_any test) c.as_slice-spec-items.ensures)
