use Rattle.std.proofs.Common.{true, false}
use Rattle.plain_run.proofs.Owing.{crash_read}
use Rattle.plain_run.proofs.answers.append_replies.Goals as goal

pub answer_crash-requires-clause-crash : goal.answer_crash-requires-clause-crash
answer_crash-requires-clause-crash c = crash_read c.args.replies c.as_slice.result.now c.any_crashed.result true c.as_slice.ensures c.any_crashed.ensures c.if-any_crashed.true

pub answer-answered-requires-clause-calm : goal.answer-answered-requires-clause-calm
answer-answered-requires-clause-calm c = crash_read c.args.replies c.as_slice.result.now c.any_crashed.result false c.as_slice.ensures c.any_crashed.ensures c.if-any_crashed.false
