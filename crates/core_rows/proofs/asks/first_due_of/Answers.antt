use Rattle.std.proofs.Common.{◌≡◌, List, [], drop, ◌∙◌, ap, sym, Option, arith}
use Rattle.std.specs.Prelude.{find}
use Rattle.std.proofs.lemmas.List.{drop_all}
use Rattle.pipe_types.specs.declared.numbers.SubNo.{SubNo}
use Rattle.pipe_types.specs.declared.topology.StageSpec.{StageSpec}
use Rattle.pipe_model.specs.Moves.{subs_into}
use Rattle.core_rows.specs.Rows.{is_due}
use Rattle.core_rows.proofs.Finding.{stage_there}
use Rattle.core_rows.proofs.Known.{into_here, into_next}
use Rattle.core_rows.proofs.asks.first_due_of.Goals as goal

pub due_on_pair-requires-clause-from : goal.due_on_pair-requires-clause-from
due_on_pair-requires-clause-from c =
    stage_there c.args.core.now.topology c.as_slice-spec-items.result.now c.loop-spec.spec-index c.spec-item.result c.requires.stands.holds.sound c.as_slice-spec-items.ensures c.loop-spec-test.true c.spec-item.is

pub returns-in-Some : goal.returns-in-Some
returns-in-Some c =
    let core = c.args.core.now in
    let all : List StageSpec → Option SubNo = λ xs. find (is_due core.topology core.journal.steps) (subs_into core.topology core.journal.steps c.args.consumer.now.no xs) in
    sym (into_here core.topology core.journal.steps c.args.consumer.now.no c.as_slice-spec-items.result.now c.loop-spec.spec-index c.spec-item.result c.in-Some.sub c.loop-spec-test.true c.spec-item.is (sym c.in-Some.ensures))
    ∙ (c.loop-spec.invariant ∙ ap all c.as_slice-spec-items.ensures)

pub loop-spec-preserved : goal.loop-spec-preserved
loop-spec-preserved c =
    let core = c.args.core.now in
    into_next core.topology core.journal.steps c.args.consumer.now.no c.as_slice-spec-items.result.now c.loop-spec.spec-index c.spec-item.result c.loop-spec-test.true c.spec-item.is c.in_default.ensures
    ∙ c.loop-spec.invariant

pub returns : goal.returns
returns c =
    let core = c.args.core.now in
    let specs = c.as_slice-spec-items.result.now in
    let all : List StageSpec → Option SubNo = λ xs. find (is_due core.topology core.journal.steps) (subs_into core.topology core.journal.steps c.args.consumer.now.no xs) in
    let none : drop c.loop-spec.spec-index specs ≡ [] = drop_all c.loop-spec.spec-index specs (omega arith) in
    ap all (sym none) ∙ (c.loop-spec.invariant ∙ ap all c.as_slice-spec-items.ensures)
