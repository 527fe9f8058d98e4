use Rattle.std.proofs.Common.{[]}
use Rattle.std.proofs.lemmas.Result.{err_from_is_err_and}
use Rattle.line_reading.specs.Reading.{texts_of}
use Rattle.line_reading.specs.Lines.{so_far, outcome_in, items_from}
use Rattle.line_reading.proofs.Loops.{items_go_on, items_fail}
use Rattle.line_reading.proofs.items.read_outcomes.Goals as goal

pub loop-text-preserved : goal.loop-text-preserved
loop-text-preserved c =
    items_go_on outcome_in (so_far c.loop-text.bad c.loop-text.outcomes.items) (so_far c.in_ok-bad.bad c.add.new.items.items) c.args.texts.now c.loop-text.text-index (record { ref_ptr = (0, 0); now = [] })
    (items_from outcome_in 0 (texts_of c.args.texts.now)) c.loop-text-test.true (c.in_ok-bad.ensures.taken _ (c.outcome.ensures c.loop-text.text-index)) c.loop-text.invariant

pub returns-in_err-bad : goal.returns-in_err-bad
returns-in_err-bad c =
    let p = err_from_is_err_and c.from_residual.result c.from_residual.ensures.1 in
    rw (p.1, p.2) (items_fail c.in_err-bad.field-0.0 outcome_in (so_far c.loop-text.bad c.loop-text.outcomes.items) c.args.texts.now c.loop-text.text-index (record { ref_ptr = (0, 0); now = [] })
    (items_from outcome_in 0 (texts_of c.args.texts.now)) c.loop-text-test.true (c.in_err-bad.ensures.failed _ (c.outcome.ensures c.loop-text.text-index)) c.loop-text.invariant)
