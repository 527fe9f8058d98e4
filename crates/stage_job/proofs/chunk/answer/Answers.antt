use Rattle.std.proofs.Common.{[], ◌∷◌, refl, ap, sym}
use Rattle.pipe_types.specs.declared.message.Reply.TheVariants as reply
use Rattle.stage_callback.specs.declared.answers.Said.TheVariants as said
use Rattle.stage_job.specs.Told.{one_more, replies_by}
use Rattle.stage_job.proofs.ToldSteps.{told_after, told_as}
use Rattle.stage_job.proofs.chunk.answer.Goals as goal

pub returns-in-Pass-clause-by_answers : goal.returns-in-Pass-clause-by_answers
returns-in-Pass-clause-by_answers g c = λ is_told.
    (said.Message (reply.Pass c.in-Pass.passed) ∷ [], told_as _ _ _ _ c.in-Pass.is (c.in_ok-why.ensures.said is_told), λ later. refl)

pub returns-in-Crashed-clause-by_answers : goal.returns-in-Crashed-clause-by_answers
returns-in-Crashed-clause-by_answers g c = λ is_told.
    (said.Message reply.Crashed ∷ [], told_as _ _ _ _ c.in-Crashed.is (c.in_ok-why.ensures.said is_told), λ later. refl)

pub returns-in_ok-reason_for-in-Failed-clause-by_answers : goal.returns-in_ok-reason_for-in-Failed-clause-by_answers
returns-in_ok-reason_for-in-Failed-clause-by_answers g c = λ is_told.
    let by = c.in_ok-reason_for-in-Failed.ensures.by_answer (rw c.in_ok-why.ensures.same.2 is_told) in
    let one = told_as _ _ _ _ c.in-Failed.is (c.in_ok-why.ensures.said is_told) in
    (said.Message (reply.Failed c.in-Failed.why) ∷ said.Failed by.0 ∷ [], told_after _ _ _ _ _ one by.1, λ later. ap (λ w. one_more (reply.Failed w) (replies_by later)) (sym by.2))

pub returns-in_ok-reason_for-in-Raised-clause-by_answers : goal.returns-in_ok-reason_for-in-Raised-clause-by_answers
returns-in_ok-reason_for-in-Raised-clause-by_answers g c = λ is_told.
    let by = c.in_ok-reason_for-in-Raised.ensures.by_answer (rw c.in_ok-why.ensures.same.2 is_told) in
    let one = told_as _ _ _ _ c.in-Raised.is (c.in_ok-why.ensures.said is_told) in
    (said.Message (reply.Raised c.in-Raised.why) ∷ said.Failed by.0 ∷ [], told_after _ _ _ _ _ one by.1, λ later. ap (λ w. one_more (reply.Raised w) (replies_by later)) (sym by.2))
