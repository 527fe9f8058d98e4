use Rattle.std.proofs.Common.{[]}
use Rattle.std.proofs.lemmas.Result.{err_from_is_err_and}
use Rattle.line_reading.specs.Reading.{texts_of}
use Rattle.line_reading.specs.Lines.{so_far, reply_at, items_from}
use Rattle.line_reading.proofs.Loops.{items_go_on, items_fail}
use Rattle.line_reading.proofs.replies.read_replies.Goals as goal

pub loop-at-preserved : goal.loop-at-preserved
loop-at-preserved g c =
    items_go_on (reply_at (g.J.JobMessages.jobs c.args.run.now c.args.post)) (so_far c.loop-at.bad c.loop-at.replies.items) (so_far c.in_ok-bad.bad c.add.new.items.items) c.args.texts.now c.loop-at.at
    (record { ref_ptr = (0, 0); now = [] }) (items_from (reply_at (g.J.JobMessages.jobs c.args.run.now c.args.post)) 0 (texts_of c.args.texts.now)) c.loop-at-test.true
    (c.in_ok-bad.ensures.taken _ (rw c.message_at.ensures at c.reply.ensures)) c.loop-at.invariant

pub returns-in_err-bad : goal.returns-in_err-bad
returns-in_err-bad g c =
    let p = err_from_is_err_and c.from_residual.result c.from_residual.ensures.1 in
    rw (p.1, p.2) (items_fail c.in_err-bad.field-0.0 (reply_at (g.J.JobMessages.jobs c.args.run.now c.args.post)) (so_far c.loop-at.bad c.loop-at.replies.items) c.args.texts.now c.loop-at.at
    (record { ref_ptr = (0, 0); now = [] }) (items_from (reply_at (g.J.JobMessages.jobs c.args.run.now c.args.post)) 0 (texts_of c.args.texts.now)) c.loop-at-test.true
    (c.in_err-bad.ensures.failed _ (rw c.message_at.ensures at c.reply.ensures)) c.loop-at.invariant)
