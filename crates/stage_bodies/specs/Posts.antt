-- What a journal says of the job of a post, and the step that records an answer.
use Rattle.std.specs.Prelude.{◌≡◌, ◌≤◌, ◌<◌, ℕ, Bool, true, false, [], ◌∷◌, ◌+◌, ◌*◌}
use Rattle.pipe_types.specs.declared.numbers.Post.{Post}
use Rattle.pipe_types.specs.declared.message.BatchEnd.{BatchEnd}
use Rattle.pipe_types.specs.declared.message.BatchEnd.TheVariants.{Crashed as CrashedEnd}
use Rattle.pipe_types.specs.declared.step.Step.{Step}
use Rattle.pipe_types.specs.declared.step.Step.TheVariants.{Accept, Quiet, SourceEnd, Done, Wrote, ChildEnd}
use Rattle.pipe_types.specs.declared.topology.Topology.{Topology}
use Rattle.pipe_model.specs.History.{History, incarnation}
use Rattle.pipe_model.specs.Lives.{is_live}
use Rattle.pipe_model.specs.Content.{has_crash}
use Rattle.pipe_model.specs.Work.{chunk_of, child_of}
use Rattle.pipe_model.specs.Taken.{IsTaken}
use Rattle.pipe_model.specs.Legal.{happened, is_halt, is_current, fetch_out, has_role, is_producer_role, is_processor_role, is_supervisor_role, is_batch_processor_role}
use Rattle.stage_bodies.specs.declared.job.Job.{Job}
use Rattle.stage_bodies.specs.declared.job.Work.{Work}
use Rattle.stage_bodies.specs.declared.job.Work.TheVariants as work
use Rattle.stage_bodies.specs.declared.job.Outcome.{Outcome}
use Rattle.stage_bodies.specs.declared.job.Outcome.TheVariants as came

-- where the body of a post stands in a table of bodies
abbrev pub place_at : Post → ℕ
place_at p = p.stage.0 * 16 + p.slot

-- the work is what the journal says of the post
abbrev pub IsWorkOf : Topology → History → Post → Work → Type 0
IsWorkOf topology before p (work.Fetch most) =
    (has_role topology p.stage is_producer_role ≡ true) × (most ≡ fetch_out before p.stage) × (1 ≤ most) × (p.slot ≡ 0)
IsWorkOf topology before p (work.Chunk messages) =
    (has_role topology p.stage is_processor_role ≡ true) × (messages ≡ chunk_of topology before p.stage) × (p.slot ≡ 0)
IsWorkOf topology before p (work.Batch batch) =
    (has_role topology p.stage is_batch_processor_role ≡ true) × IsTaken topology before p.stage batch × (p.slot ≡ 0)
IsWorkOf topology before p (work.Child message) =
    (has_role topology p.stage is_supervisor_role ≡ true) × (message ∷ [] ≡ child_of before p.stage p.slot)

-- the job of the post is out, from the present incarnation of its live stage
pub record IsOutNow (topology : Topology) (before : History) (p : Post) : Type 0 where
  pub going : happened is_halt before ≡ false
  pub live : is_live topology before p.stage ≡ true
  pub current : is_current before p.stage p.slot ≡ true
  pub slot : p.slot < 16

-- the job is out, and is what the journal says
pub record IsJobOf (topology : Topology) (before : History) (job : Job) : Type 0 where
  pub out : IsOutNow topology before job.post
  pub incarnation : job.incarnation ≡ incarnation before job.post.stage
  pub work : IsWorkOf topology before job.post job.work

-- the step that records the answer of a live post
abbrev pub step_of : Post → Outcome → Step
step_of p (came.Records records) = Accept p.stage records
step_of p came.NotYet = Quiet p.stage
step_of p (came.Ended how) = SourceEnd p.stage how
step_of p (came.Replies replies) = Done p.stage replies
step_of p (came.Wrote bytes end) = Wrote p.stage bytes end
step_of p (came.Reply reply) = ChildEnd p.stage p.slot reply

abbrev pub is_crashed_end : BatchEnd → Bool
is_crashed_end CrashedEnd = true
is_crashed_end _ = false

-- the callback of a processor or a batch processor crashed, and its stage is to be killed
abbrev pub is_crash : Outcome → Bool
is_crash (came.Replies replies) = has_crash replies
is_crash (came.Wrote bytes end) = is_crashed_end end
is_crash _ = false

-- the answer brings records
abbrev pub brings_records : Outcome → Bool
brings_records (came.Records records) = true
brings_records _ = false
