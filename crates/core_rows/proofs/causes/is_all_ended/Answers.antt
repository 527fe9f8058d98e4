use Rattle.std.proofs.Common.{◌≡◌, drop, ◌∙◌, arith, ap, sym, Bool, []}
use Rattle.std.specs.Prelude.{not, ◌||◌}
use Rattle.std.specs.List.{list_all}
use Rattle.std.proofs.lemmas.List.{drop_all}
use Rattle.pipe_types.specs.declared.topology.StageSpec.{StageSpec}
use Rattle.pipe_model.specs.Legal.{is_producer_role, has_ended}
use Rattle.core_rows.proofs.Finding.{all_not, all_next, stage_there}
use Rattle.core_rows.proofs.causes.is_all_ended.Goals as goal

pub returns-then-not-is_source_done : goal.returns-then-not-is_source_done
returns-then-not-is_source_done c =
    let test : StageSpec → Bool = λ spec. not (is_producer_role spec.role) || has_ended c.args.core.now.journal.steps spec.no in
    let specs = c.as_slice-spec-items.result.now in
    let here = ap test (sym c.spec-item.is) ∙ (sym c.is_source_done.ensures ∙ c.if-not-is_source_done.true) in
    sym (all_not test specs c.loop-spec.spec-index c.spec-item.result c.loop-spec-test.true here) ∙ (c.loop-spec.invariant ∙ ap (list_all test) c.as_slice-spec-items.ensures)

pub loop-spec-preserved : goal.loop-spec-preserved
loop-spec-preserved c =
    let test : StageSpec → Bool = λ spec. not (is_producer_role spec.role) || has_ended c.args.core.now.journal.steps spec.no in
    let here = ap test (sym c.spec-item.is) ∙ (sym c.is_source_done.ensures ∙ c.if-not-is_source_done.false) in
    all_next test c.as_slice-spec-items.result.now c.loop-spec.spec-index c.spec-item.result c.loop-spec-test.true here ∙ c.loop-spec.invariant

pub returns : goal.returns
returns c =
    let test : StageSpec → Bool = λ spec. not (is_producer_role spec.role) || has_ended c.args.core.now.journal.steps spec.no in
    let specs = c.as_slice-spec-items.result.now in
    let none : drop c.loop-spec.spec-index specs ≡ [] = drop_all c.loop-spec.spec-index specs (omega arith) in
    ap (list_all test) (sym none) ∙ (c.loop-spec.invariant ∙ ap (list_all test) c.as_slice-spec-items.ensures)

pub is_source_done-requires-clause-there : goal.is_source_done-requires-clause-there
is_source_done-requires-clause-there c =
    stage_there c.args.core.now.topology c.as_slice-spec-items.result.now c.loop-spec.spec-index c.spec-item.result c.requires.stands.holds.sound c.as_slice-spec-items.ensures c.loop-spec-test.true c.spec-item.is
