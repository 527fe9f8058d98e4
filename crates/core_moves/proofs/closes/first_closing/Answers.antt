use Rattle.std.proofs.Common.{◌≡◌, [], drop, ◌∙◌, ap, sym, arith}
use Rattle.std.proofs.lemmas.List.{drop_all}
use Rattle.pipe_model.specs.Moves.{closable}
use Rattle.core_moves.specs.Closes.{closing_move}
use Rattle.core_rows.proofs.Finding.{stage_there}
use Rattle.core_moves.proofs.Firsts.{closable_here, closable_next}
use Rattle.core_moves.proofs.closes.first_closing.Goals as goal

pub closing_in-requires-clause-there : goal.closing_in-requires-clause-there
closing_in-requires-clause-there c =
    stage_there c.args.core.now.topology c.as_slice-spec-items.result.now c.loop-spec.spec-index c.spec-item.result c.requires.stands.holds.sound c.as_slice-spec-items.ensures c.loop-spec-test.true c.spec-item.is

pub returns-in-Some : goal.returns-in-Some
returns-in-Some c =
    let core = c.args.core.now in
    closable_here core.topology core.journal.steps c.as_slice-spec-items.result.now c.loop-spec.spec-index c.spec-item.result (closing_move c.in-Some.found) c.loop-spec-test.true c.spec-item.is c.in-Some.ensures
    ∙ (c.loop-spec.invariant ∙ ap (closable core.topology core.journal.steps) c.as_slice-spec-items.ensures)

pub loop-spec-preserved : goal.loop-spec-preserved
loop-spec-preserved c =
    let core = c.args.core.now in
    closable_next core.topology core.journal.steps c.as_slice-spec-items.result.now c.loop-spec.spec-index c.spec-item.result c.loop-spec-test.true c.spec-item.is c.in_default.ensures
    ∙ c.loop-spec.invariant

pub returns : goal.returns
returns c =
    let core = c.args.core.now in
    let specs = c.as_slice-spec-items.result.now in
    let none : drop c.loop-spec.spec-index specs ≡ [] = drop_all c.loop-spec.spec-index specs (omega arith) in
    ap (closable core.topology core.journal.steps) (sym none) ∙ (c.loop-spec.invariant ∙ ap (closable core.topology core.journal.steps) c.as_slice-spec-items.ensures)
