-- Steps that answer another job, or none.
use Rattle.std.proofs.Common.{◌≡◌, true, false, ◌∙◌, subst, Option}
use Rattle.std.specs.Prelude.{◌≢◌}
use Rattle.std.proofs.lemmas.Bool.{false_from_ne_true}
use Rattle.pipe_types.specs.declared.numbers.Post.{Post}
use Rattle.pipe_types.specs.declared.step.Step.{Step}
use Rattle.pipe_types.specs.declared.topology.Topology.{Topology}
use Rattle.pipe_types.specs.Numbers.{stage, post, same_post}
use Rattle.pipe_types.specs.Sound.{IsSound}
use Rattle.pipe_model.specs.History.{History}
use Rattle.pipe_model.specs.Posts.{answers}
use Rattle.pipe_model.specs.Legal.{is_legal}
use Rattle.stage_bodies.specs.Seen.{BodySeen}
use Rattle.stage_bodies.specs.Jobs.{IsDone}
use Rattle.stage_bodies.specs.Posts.{step_of}
use Rattle.stage_bodies.specs.declared.job.Answer.{Answer}
use Rattle.stage_bodies.specs.declared.job.Job.{Job}
use Rattle.body_laws.specs.Keeps.{is_silent}
use Rattle.body_laws.specs.Lates.{late_step}
use Rattle.body_laws.proofs.Posts.{out_has_post, same_post-true}
use Rattle.body_laws.proofs.Jobs.{silent_quietly}
use Rattle.body_laws.proofs.Laws.{answers_only, names_slot}
use Rattle.job_laws.specs.Away.{IsAway, IsAnswerTo}

pub one_answered : (topology : Topology) (before : History) (opened : Option BodySeen) (job : Job) (answer : Answer) (old new : BodySeen) (other : Post) → IsAway topology before opened job old → IsAnswerTo job answer → IsDone job.work answer.outcome old new → other ≢ job.post
    → (answers (step_of answer.post answer.outcome) other ≡ false) × (answers (late_step answer.post answer.incarnation answer.outcome) other ≡ false)
one_answered topology before opened job answer old new other away to done apart = (
  false_from_ne_true (answers (step_of answer.post answer.outcome) other)
      (λ h. apart (answers_only job.post other answer.outcome (names_slot topology before job.post job.work answer.outcome old new away.work done) (subst (λ p. answers (step_of p answer.outcome) other ≡ true) to.post h))),
  false_from_ne_true (same_post other answer.post) (λ h. apart (same_post-true other answer.post h ∙ to.post)),
)

pub silent_unanswered : (topology : Topology) (before : History) (step : Step) (opened : Option BodySeen) (job : Job) (body : BodySeen) → IsSound topology → is_legal topology before ≡ true → is_silent step ≡ true → IsAway topology before opened job body → answers step job.post ≡ false
silent_unanswered topology before step opened job body sound legal calm away =
    (silent_quietly topology step sound calm).unanswered job.post (out_has_post topology before job.post.stage job.post.slot legal away.out)
