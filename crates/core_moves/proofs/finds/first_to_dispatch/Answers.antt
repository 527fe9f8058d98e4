use Rattle.std.proofs.Common.{◌≡◌, drop, ◌∙◌, arith, ap, sym, Some, Bool, []}
use Rattle.std.specs.Prelude.{find, option_map}
use Rattle.std.proofs.lemmas.List.{drop_all}
use Rattle.pipe_types.specs.declared.topology.StageSpec.{StageSpec}
use Rattle.pipe_model.specs.Legal.{may_dispatch}
use Rattle.core_rows.proofs.Finding.{found_here, not_here, stage_there}
use Rattle.core_moves.proofs.finds.first_to_dispatch.Goals as goal

pub returns-then-may_dispatch : goal.returns-then-may_dispatch
returns-then-may_dispatch c =
    let test : StageSpec → Bool = λ spec. may_dispatch c.args.core.now.topology c.args.core.now.journal.steps spec.no in
    let specs = c.as_slice-spec-items.result.now in
    let i = c.loop-spec.spec-index in
    let here = ap test (sym c.spec-item.is) ∙ (sym c.may_dispatch.ensures ∙ c.if-may_dispatch.true) in
    let all = sym (found_here test specs i c.spec-item.result c.loop-spec-test.true here) ∙ (c.loop-spec.invariant ∙ ap (find test) c.as_slice-spec-items.ensures) in
    ap (λ (o : StageSpec). Some o.no) c.spec-item.is ∙ ap (option_map (λ (s : StageSpec). s.no)) all

pub loop-spec-preserved : goal.loop-spec-preserved
loop-spec-preserved c =
    let test : StageSpec → Bool = λ spec. may_dispatch c.args.core.now.topology c.args.core.now.journal.steps spec.no in
    let here = ap test (sym c.spec-item.is) ∙ (sym c.may_dispatch.ensures ∙ c.if-may_dispatch.false) in
    not_here test c.as_slice-spec-items.result.now c.loop-spec.spec-index c.spec-item.result c.loop-spec-test.true here ∙ c.loop-spec.invariant

pub returns : goal.returns
returns c =
    let test : StageSpec → Bool = λ spec. may_dispatch c.args.core.now.topology c.args.core.now.journal.steps spec.no in
    let none : drop c.loop-spec.spec-index c.as_slice-spec-items.result.now ≡ [] = drop_all c.loop-spec.spec-index c.as_slice-spec-items.result.now (omega arith) in
    ap (λ xs. option_map (λ (s : StageSpec). s.no) (find test xs)) (sym none) ∙ ap (option_map (λ (s : StageSpec). s.no)) (c.loop-spec.invariant ∙ ap (find test) c.as_slice-spec-items.ensures)

pub may_dispatch-requires-clause-there : goal.may_dispatch-requires-clause-there
may_dispatch-requires-clause-there c =
    stage_there c.args.core.now.topology c.as_slice-spec-items.result.now c.loop-spec.spec-index c.spec-item.result c.requires.stands.holds.sound c.as_slice-spec-items.ensures c.loop-spec-test.true c.spec-item.is
