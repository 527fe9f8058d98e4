use Rattle.std.proofs.lemmas.Result.{IfOk-weaker}
use Rattle.stage_job.proofs.OneMessage.{one_calm, one_told, raised_told}
use Rattle.stage_job.proofs.chunk.run_message.Goals as goal

pub returns-in-Ready-clause-calm : goal.returns-in-Ready-clause-calm
returns-in-Ready-clause-calm g c = λ not_own calm.
    let shown = c.in_ok-show.ensures in
    IfOk-weaker c.answer.result _ _ (λ r is. one_calm _ _ _ c.args.message r shown.same.1 calm is.0) (c.answer.ensures.built_in (rw shown.same.0 not_own))

pub returns-in-Ready-clause-by_answers : goal.returns-in-Ready-clause-by_answers
returns-in-Ready-clause-by_answers g c = λ is_told.
    let shown = c.in_ok-show.ensures in
    IfOk-weaker c.answer.result _ _ (λ r told. one_told _ _ _ c.in_ok-show.field-0 r c.in-Ready.is (shown.said is_told) told) (c.answer.ensures.by_answers (rw shown.same.2 is_told))

pub returns-in_ok-reason_for-in-Raised-clause-by_answers : goal.returns-in_ok-reason_for-in-Raised-clause-by_answers
returns-in_ok-reason_for-in-Raised-clause-by_answers g c = λ is_told.
    let shown = c.in_ok-show.ensures in
    raised_told _ _ _ _ c.in-Raised.why c.in_ok-reason_for-in-Raised.field-0 c.in-Raised.is (shown.said is_told) (c.in_ok-reason_for-in-Raised.ensures.by_answer (rw shown.same.2 is_told))
