-- How a run goes on, from one step to the next.
use Rattle.std.specs.Prelude.{◌≡◌, ◌≤◌, ◌<◌, ◌⊎◌, ◌+◌, ◌-◌, ◌++◌, ℕ, false, All, Option, IsSome, is_some}
use Rattle.pipe_types.specs.declared.topology.Topology.{Topology}
use Rattle.pipe_types.specs.declared.numbers.Post.{Post}
use Rattle.pipe_model.specs.History.{History, now, controls}
use Rattle.pipe_model.specs.Posts.{puts_out, answers}
use Rattle.pipe_model.specs.Legal.{happened, is_halt}
use Rattle.pipe_model.specs.Moves.{jobs_out}
use Rattle.pipe_laws.specs.Followed.{FollowsMoves}
use Rattle.stage_bodies.specs.Seen.{BodySeen, LineSeen}
use Rattle.body_laws.specs.Keeps.{Keeps}
use Rattle.body_laws.specs.Ready.{Ready, There}
use Rattle.work_laws.specs.Left.{work_left}
use Rattle.control_lines.specs.Steps.{jobs_begun, still_ticks}
use Rattle.control_lines.specs.Keeping.{KeepsControl}

-- a body is there, and has its callback
abbrev pub HasCallback : Option BodySeen → Type 0
HasCallback body = There body (λ b. IsSome b.callback)

-- steps were added, each the next move when it came; what the journal says of the bodies holds on, and no body and no callback
-- is gone
pub record GoesOn (topology : Topology) (old : History) (home : ℕ → Option BodySeen) (new : History) (home' : ℕ → Option BodySeen) : Type 0 where
  pub follows : FollowsMoves topology old → FollowsMoves topology new
  pub keeps : (opened : ℕ → Option BodySeen) → Keeps topology old opened home → Keeps topology new opened home'
  pub bodies : (at : ℕ) → IsSome (home at) → IsSome (home' at)
  pub callbacks : (at : ℕ) → HasCallback (home at) → HasCallback (home' at)

-- no tick was added, and at most so many jobs were begun, of the one that may be begun behind a reading of the control source;
-- no step came from it
pub record Within (topology : Topology) (jobs : ℕ) (old new : History) : Type 0 where
  pub same_time : now new ≡ now old
  pub same_still : still_ticks new ≡ still_ticks old
  pub begun : jobs_begun new ≤ jobs_begun old + jobs
  pub control : (opened lines : Option LineSeen) → KeepsControl topology old 1 opened lines → KeepsControl topology new (1 - jobs) opened lines
  pub same_controls : controls new ≡ controls old

-- steps were added, and none of them puts a post out or answers one
pub record AddsSilently (old new : History) : Type 0 where
  pub later : History
  pub is : new ≡ later ++ old
  pub silent : All (λ step. (p : Post) → (puts_out step p ≡ false) × (answers step p ≡ false)) later

-- steps of the pipeline's own were added: the bodies that were at home are, and are ready, the same jobs are out, and less work is
-- left, or there was no step to add
pub record Advances (topology : Topology) (old : History) (home : ℕ → Option BodySeen) (new : History) (home' : ℕ → Option BodySeen) : Type 0 where
  pub goes : GoesOn topology old home new home'
  pub ready : Ready topology new home'
  pub same_places : (at : ℕ) → is_some (home' at) ≡ is_some (home at)
  pub same_out : jobs_out topology new ≡ jobs_out topology old
  pub silent : AddsSilently old new
  pub within : Within topology 0 old new
  pub progress : (new ≡ old) ⊎ (work_left topology new < work_left topology old)

-- a run that goes on with all bodies where they are, and the jobs, the control lines and the halt as they were
pub record Waits (topology : Topology) (old new : History) : Type 0 where
  pub goes : (home : ℕ → Option BodySeen) → GoesOn topology old home new home
  pub ready : (home : ℕ → Option BodySeen) → Ready topology old home → Ready topology new home
  pub same_out : jobs_out topology new ≡ jobs_out topology old
  pub silent : AddsSilently old new
  pub control : (jobs : ℕ) (opened lines : Option LineSeen) → KeepsControl topology old jobs opened lines → KeepsControl topology new jobs opened lines
  pub same_controls : controls new ≡ controls old
  pub same_halt : happened is_halt new ≡ happened is_halt old
