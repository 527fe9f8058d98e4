use Rattle.std.proofs.Common.{◌≡◌, List, [], drop, ◌∙◌, ap, sym, arith}
use Rattle.std.specs.Prelude.{find}
use Rattle.std.specs.List.{flat_map}
use Rattle.std.proofs.lemmas.List.{drop_all}
use Rattle.pipe_types.specs.declared.numbers.SubNo.{SubNo}
use Rattle.pipe_types.specs.declared.topology.StageSpec.{StageSpec}
use Rattle.pipe_model.specs.Moves.{subs_into, all_subs}
use Rattle.core_rows.specs.Rows.{is_due}
use Rattle.core_rows.proofs.Finding.{stage_there}
use Rattle.core_rows.proofs.Known.{flat_here, flat_next, none_due, find_nothing}
use Rattle.core_rows.proofs.asks.first_due.Goals as goal

pub first_due_of-requires-clause-there : goal.first_due_of-requires-clause-there
first_due_of-requires-clause-there c =
    stage_there c.args.core.now.topology c.as_slice-spec-items.result.now c.loop-spec.spec-index c.spec-item.result c.requires.stands.holds.sound c.as_slice-spec-items.ensures c.loop-spec-test.true c.spec-item.is

pub returns-then-not-has_due : goal.returns-then-not-has_due
returns-then-not-has_due c =
    let core = c.args.core.now in
    sym (find_nothing (is_due core.topology core.journal.steps) (none_due core c.requires.stands.holds (sym c.has_due.ensures ∙ c.if-not-has_due.true)) (all_subs core.topology core.journal.steps))

pub returns-in-Some : goal.returns-in-Some
returns-in-Some c =
    let core = c.args.core.now in
    let into : StageSpec → List SubNo = λ c. subs_into core.topology core.journal.steps c.no core.topology.stages in
    let test = is_due core.topology core.journal.steps in
    let here = ap (λ q. find test (into q)) (sym c.spec-item.is) ∙ sym c.in-Some.ensures in
    sym (flat_here test into c.as_slice-spec-items.result.now c.loop-spec.spec-index c.spec-item.result c.in-Some.sub c.loop-spec-test.true here)
    ∙ (c.loop-spec.invariant ∙ ap (λ xs. find test (flat_map into xs)) c.as_slice-spec-items.ensures)

pub loop-spec-preserved : goal.loop-spec-preserved
loop-spec-preserved c =
    let core = c.args.core.now in
    let into : StageSpec → List SubNo = λ c. subs_into core.topology core.journal.steps c.no core.topology.stages in
    let test = is_due core.topology core.journal.steps in
    let here = ap (λ q. find test (into q)) (sym c.spec-item.is) ∙ sym c.in_default.ensures in
    flat_next test into c.as_slice-spec-items.result.now c.loop-spec.spec-index c.spec-item.result c.loop-spec-test.true here ∙ c.loop-spec.invariant

pub returns : goal.returns
returns c =
    let core = c.args.core.now in
    let into : StageSpec → List SubNo = λ c. subs_into core.topology core.journal.steps c.no core.topology.stages in
    let test = is_due core.topology core.journal.steps in
    let specs = c.as_slice-spec-items.result.now in
    let none : drop c.loop-spec.spec-index specs ≡ [] = drop_all c.loop-spec.spec-index specs (omega arith) in
    ap (λ xs. find test (flat_map into xs)) (sym none) ∙ (c.loop-spec.invariant ∙ ap (λ xs. find test (flat_map into xs)) c.as_slice-spec-items.ensures)
