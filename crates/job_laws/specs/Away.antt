-- Jobs that are out while the journal goes on, and the answers to them.
use Rattle.std.specs.Prelude.{◌≡◌, ◌<◌, Bool, true, false, List, ◌==◌, ◌&&◌, All, Option, Some}
use Rattle.pipe_types.specs.declared.numbers.Post.{Post}
use Rattle.pipe_types.specs.declared.step.Step.{Step}
use Rattle.pipe_types.specs.declared.topology.Topology.{Topology}
use Rattle.pipe_model.specs.History.{History, incarnation}
use Rattle.pipe_model.specs.Lives.{is_live}
use Rattle.pipe_model.specs.Posts.{answers, is_out, out_from}
use Rattle.stage_bodies.specs.Seen.{BodySeen}
use Rattle.stage_bodies.specs.Jobs.{Both}
use Rattle.stage_bodies.specs.Posts.{IsWorkOf}
use Rattle.stage_bodies.specs.declared.job.Answer.{Answer}
use Rattle.stage_bodies.specs.declared.job.Job.{Job}
use Rattle.body_laws.specs.Keeps.{KeepsBody}
use Rattle.body_laws.specs.Ready.{IsBodyAt, WasTold}

-- the job is out and its work is what the journal says; the body that left with it holds what the job needs, and stands where
-- the journal leaves it; the source of a fetch was told its moment
pub record IsAway (topology : Topology) (before : History) (opened : Option BodySeen) (job : Job) (body : BodySeen) : Type 0 where
  pub out : is_out before job.post ≡ true
  pub from : out_from before job.post ≡ job.incarnation
  pub slot : job.post.slot < 16
  pub work : IsWorkOf topology before job.post job.work
  pub ready : IsBodyAt topology before job.post body
  pub kept : Both (KeepsBody topology before job.post) opened (Some body)
  pub told : WasTold before job.post.stage job.work body

-- the incarnation that the job left from is live
abbrev pub is_from_live : Topology → History → Job → Bool
is_from_live topology before job = is_live topology before job.post.stage && incarnation before job.post.stage == job.incarnation

-- no step of the list answers the post
abbrev pub AreElsewhere : List Step → Post → Type 0
AreElsewhere later p = All (λ step. answers step p ≡ false) later

-- the answer names the job's post and the incarnation that it left from
pub record IsAnswerTo (job : Job) (answer : Answer) : Type 0 where
  pub post : answer.post ≡ job.post
  pub incarnation : answer.incarnation ≡ job.incarnation
