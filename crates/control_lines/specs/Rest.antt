-- What steps from a control source leave of a run.
use Rattle.std.specs.Prelude.{◌≡◌, ◌<◌, ◌⊎◌, ℕ, Option}
use Rattle.pipe_types.specs.declared.topology.Topology.{Topology}
use Rattle.pipe_model.specs.History.{History, now}
use Rattle.pipe_model.specs.Legal.{happened, is_halt}
use Rattle.pipe_model.specs.Moves.{jobs_out}
use Rattle.pipe_laws.specs.Followed.{FollowsMoves}
use Rattle.stage_bodies.specs.Seen.{BodySeen}
use Rattle.body_laws.specs.Keeps.{Keeps}
use Rattle.body_laws.specs.Ready.{Ready}
use Rattle.work_laws.specs.Left.{work_left}
use Rattle.control_lines.specs.Steps.{jobs_begun, still_ticks}

-- no job was begun and no tick was added, the bodies stand as they did, and less work is left, or no step was added
pub record LeavesAtRest (topology : Topology) (old new : History) : Type 0 where
  pub follows : FollowsMoves topology old → FollowsMoves topology new
  pub same_halt : happened is_halt new ≡ happened is_halt old
  pub same_out : jobs_out topology new ≡ jobs_out topology old
  pub keeps : (opened home : ℕ → Option BodySeen) → Keeps topology old opened home → Keeps topology new opened home
  pub ready : (home : ℕ → Option BodySeen) → Ready topology old home → Ready topology new home
  pub same_time : now new ≡ now old
  pub same_still : still_ticks new ≡ still_ticks old
  pub same_jobs : jobs_begun new ≡ jobs_begun old
  pub progress : (new ≡ old) ⊎ (work_left topology new < work_left topology old)
