-- What a worker does to a pipe while it has it, from what it brings to what it goes away with: one hold, or more, between which it
-- did the jobs that it began.
use Rattle.std.specs.Prelude.{Option, IfSome}
use Rattle.pipe_model.specs.History.{History}
use Rattle.pipeline_turn.specs.Jobs.{AreAway}
use Rattle.stage_bodies.specs.Seen.{BodySeen}
use Rattle.stage_holds.specs.Holds.{AddsHold}
use Rattle.stage_holds.specs.declared.loads.Load.{Load}
use Rattle.stage_holds.specs.declared.loads.Home.{Home}
use Rattle.stage_workers.specs.Rounds.{IfJob, job_post, brought_post}
use Rattle.stage_workers.specs.declared.shift.Round.{Round}
use Rattle.run_pipe.specs.Jobs.{IsLoadOf, IsBrought}
use Rattle.run_pipe.specs.Rounded.{IsRecorded}
use Rattle.run_pipe.specs.Seen.{PipeState, away_of}
use Rattle.run_pipe.specs.Stems.{Stems}

-- The pipe comes from the same start still, and so does the job that the worker goes away with. The journal was added to, what was
-- brought is in it, and no other post that was out was answered. A post is away where the worker goes away with its body, or where
-- it was away and was not brought.
pub record Serves {B : Type 0} (look : B → BodySeen) (brought : Option (Home B)) (round : Round (Load B)) (old new : PipeState) : Type 0 where
  pub stems : (opened : PipeState) (seen : History) → Stems opened old → IsBrought look opened seen old.steps brought → Stems opened new
  pub load : (opened : PipeState) (seen : History) → Stems opened old → IsBrought look opened seen old.steps brought → IfJob round (IsLoadOf look opened new.steps)
  pub adds : AddsHold (brought_post (λ home. home.post) brought) (job_post (λ load. load.job.post) round) old.steps new.steps
  pub recorded : IfSome brought (λ home. IsRecorded old new home)
  pub away : AreAway (brought_post (λ home. home.post) brought) (job_post (λ load. load.job.post) round) (away_of old) (away_of new)
