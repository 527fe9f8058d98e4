use Rattle.std.proofs.Common.{◌≡◌, drop, ◌∙◌, arith, ap, sym, Some, Bool, []}
use Rattle.std.specs.Prelude.{find, option_map}
use Rattle.std.proofs.lemmas.List.{drop_all}
use Rattle.pipe_types.specs.declared.topology.StageSpec.{StageSpec}
use Rattle.pipe_model.specs.Flow.{inbox}
use Rattle.pipe_model.specs.Legal.{may_gather, first_unit}
use Rattle.core_rows.proofs.Finding.{found_here, not_here, stage_there}
use Rattle.core_moves.proofs.finds.first_to_gather.Goals as goal

pub returns-then-may_gather_first : goal.returns-then-may_gather_first
returns-then-may_gather_first c =
    let core = c.args.core.now in
    let test : StageSpec → Bool = λ spec. may_gather core.topology core.journal.steps spec.no (first_unit (inbox core.topology core.journal.steps spec.no)) in
    let i = c.loop-spec.spec-index in
    let spec = c.spec-item.result in
    let here = ap test (sym c.spec-item.is) ∙ (sym c.may_gather_first.ensures ∙ c.if-may_gather_first.true) in
    let all = sym (found_here test c.as_slice-spec-items.result.now i spec c.loop-spec-test.true here) ∙ (c.loop-spec.invariant ∙ ap (find test) c.as_slice-spec-items.ensures) in
    ap (λ (o : StageSpec). Some o.no) c.spec-item.is ∙ ap (option_map (λ (s : StageSpec). s.no)) all

pub loop-spec-preserved : goal.loop-spec-preserved
loop-spec-preserved c =
    let core = c.args.core.now in
    let test : StageSpec → Bool = λ spec. may_gather core.topology core.journal.steps spec.no (first_unit (inbox core.topology core.journal.steps spec.no)) in
    let here = ap test (sym c.spec-item.is) ∙ (sym c.may_gather_first.ensures ∙ c.if-may_gather_first.false) in
    not_here test c.as_slice-spec-items.result.now c.loop-spec.spec-index c.spec-item.result c.loop-spec-test.true here ∙ c.loop-spec.invariant

pub returns : goal.returns
returns c =
    let core = c.args.core.now in
    let test : StageSpec → Bool = λ spec. may_gather core.topology core.journal.steps spec.no (first_unit (inbox core.topology core.journal.steps spec.no)) in
    let none : drop c.loop-spec.spec-index c.as_slice-spec-items.result.now ≡ [] = drop_all c.loop-spec.spec-index c.as_slice-spec-items.result.now (omega arith) in
    ap (λ xs. option_map (λ (s : StageSpec). s.no) (find test xs)) (sym none) ∙ ap (option_map (λ (s : StageSpec). s.no)) (c.loop-spec.invariant ∙ ap (find test) c.as_slice-spec-items.ensures)

pub may_gather_first-requires-clause-there : goal.may_gather_first-requires-clause-there
may_gather_first-requires-clause-there c =
    stage_there c.args.core.now.topology c.as_slice-spec-items.result.now c.loop-spec.spec-index c.spec-item.result c.requires.stands.holds.sound c.as_slice-spec-items.ensures c.loop-spec-test.true c.spec-item.is
