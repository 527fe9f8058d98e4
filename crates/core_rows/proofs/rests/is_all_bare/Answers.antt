use Rattle.std.proofs.Common.{◌≡◌, drop, ◌∙◌, arith, ap, sym, Bool, []}
use Rattle.std.specs.Prelude.{is_some}
use Rattle.std.specs.List.{list_all}
use Rattle.std.proofs.lemmas.List.{drop_all}
use Rattle.pipe_types.specs.declared.topology.StageSpec.{StageSpec}
use Rattle.pipe_model.specs.Standing.{is_clear}
use Rattle.core_rows.proofs.Finding.{all_not, all_next, stage_there}
use Rattle.core_rows.proofs.rests.is_all_bare.Goals as goal

pub returns-then-not-is_stage_bare : goal.returns-then-not-is_stage_bare
returns-then-not-is_stage_bare c = λ home.
    let core = c.args.core.now in
    let test : StageSpec → Bool = λ spec. is_clear core.topology core.journal.steps spec.no in
    let specs = c.as_slice-spec-items.result.now in
    let here = ap test (sym c.spec-item.is) ∙ (sym (c.is_stage_bare.ensures home) ∙ c.if-not-is_stage_bare.true) in
    sym (all_not test specs c.loop-spec.spec-index c.spec-item.result c.loop-spec-test.true here) ∙ (c.loop-spec.invariant home ∙ ap (list_all test) c.as_slice-spec-items.ensures)

pub loop-spec-preserved : goal.loop-spec-preserved
loop-spec-preserved c = λ home.
    let core = c.args.core.now in
    let test : StageSpec → Bool = λ spec. is_clear core.topology core.journal.steps spec.no in
    let here = ap test (sym c.spec-item.is) ∙ (sym (c.is_stage_bare.ensures home) ∙ c.if-not-is_stage_bare.false) in
    all_next test c.as_slice-spec-items.result.now c.loop-spec.spec-index c.spec-item.result c.loop-spec-test.true here ∙ c.loop-spec.invariant home

pub returns : goal.returns
returns c = λ home.
    let core = c.args.core.now in
    let test : StageSpec → Bool = λ spec. is_clear core.topology core.journal.steps spec.no in
    let specs = c.as_slice-spec-items.result.now in
    let none : drop c.loop-spec.spec-index specs ≡ [] = drop_all c.loop-spec.spec-index specs (omega arith) in
    ap (list_all test) (sym none) ∙ (c.loop-spec.invariant home ∙ ap (list_all test) c.as_slice-spec-items.ensures)

pub is_stage_bare-requires-clause-there : goal.is_stage_bare-requires-clause-there
is_stage_bare-requires-clause-there c =
    ap is_some (stage_there c.args.core.now.topology c.as_slice-spec-items.result.now c.loop-spec.spec-index c.spec-item.result c.requires.stands.holds.sound c.as_slice-spec-items.ensures c.loop-spec-test.true c.spec-item.is)
