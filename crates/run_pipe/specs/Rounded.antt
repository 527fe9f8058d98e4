-- What a round does to a pipe.
use Rattle.std.specs.Prelude.{◌≡◌, ◌⊎◌, ◌<◌, ◌≤◌, ◌+◌, true, Option, None, IfSome, IfOk, IsSomeAnd, IsOkAnd, IsErr, IsSome, is_some}
use Rattle.pipe_types.specs.Counts.{Rose}
use Rattle.pipe_types.specs.declared.topology.Topology.{Topology}
use Rattle.pipe_model.specs.Legal.{quiet_row}
use Rattle.pipe_model.specs.Moves.{move, JobsOut, jobs_out}
use Rattle.run_pipe.specs.Measure.{holds_left}
use Rattle.pipe_model.specs.History.{History, controls}
use Rattle.pipe_model.specs.Begins.{BeginsWith}
use Rattle.pipeline_turn.specs.Jobs.{AreAway}
use Rattle.stage_bodies.specs.Seen.{BodySeen}
use Rattle.stage_holds.specs.Answers.{with_answered, IsAlwaysRecorded}
use Rattle.stage_holds.specs.Holds.{AddsHold}
use Rattle.stage_holds.specs.Nexts.{HasPausedAt}
use Rattle.stage_holds.specs.Rows.{KeepsRows}
use Rattle.stage_holds.specs.declared.loads.Load.{Load}
use Rattle.stage_holds.specs.declared.loads.Home.{Home}
use Rattle.run_pipe.specs.Seen.{PipeState, away_of}
use Rattle.run_pipe.specs.Stems.{Stems}
use Rattle.run_pipe.specs.Jobs.{IsLoadOf, IsBrought}
use Rattle.run_pipe.specs.Ends.{HasMemory}
use Rattle.run_pipe.specs.Whole.{IsWhole}
use Rattle.run_pipe.specs.Rounds.{Goes, GoesOn, IsOn, IsOver, IsWaiting, HasPaused, begins_job}
use Rattle.stage_workers.specs.Rounds.{IfJob, job_post, brought_post}
use Rattle.stage_workers.specs.declared.shift.Round.{Round}

-- the journal is as it was, or has the answer that is brought
abbrev pub AddsOnly : {B : Type 0} → Topology → (old new : History) → Option (Home B) → Type 0
AddsOnly topology old new brought = (new ≡ old) ⊎ IsSomeAnd brought (λ home. IsOkAnd home.answer (λ answer. new ≡ with_answered topology old answer))

-- the answer of what came home is in the journal: records unless the pipe had ended or memory was wanting, and every other answer in any
-- case; and where the job was cut off the pipe has ended
pub record IsRecorded {B : Type 0} (old new : PipeState) (home : Home B) : Type 0 where
  pub recorded : old.end ≡ None → HasMemory new.end → IfOk home.answer (λ answer. BeginsWith new.steps (with_answered old.topology old.steps answer))
  pub always : IsAlwaysRecorded old.topology old.steps new.steps home.answer
  pub cut_off : IsErr home.answer → IsSome new.end

-- The pipe comes from the same start still, and so does the job that the worker goes away with. The journal was added to as by one
-- hold, first by the answer that was brought: by records unless the pipe had ended or memory was wanting, and by every other answer in
-- any case. Where it had ended, it has ended so still, and nothing but the answer was added; and it ends where the answer is that a job
-- was cut off. At most one step is of the control source. A
-- post is away where the worker goes away with its body, or where it was away and was not brought.
-- The pipe has ended just where there is nothing to do any more, or where memory was wanting for the watch behind a job that was begun, and is whole. The worker waits where the next move is to wait for
-- the jobs that are out, and lets time pass where it was a pause: then the clock has paused. Where it brings an answer that is work, and begins a job or lets
-- time pass, fewer holds are left. Where it finds a shorter row of quiet answers, no row grows beyond the idle limit.
pub record Rounded {B : Type 0} (look : B → BodySeen) (brought : Option (Home B)) (round : Round (Load B)) (old new : PipeState) : Type 0 where
  pub stems : (opened : PipeState) (seen : History) → Stems opened old → IsBrought look opened seen old.steps brought → Stems opened new
  pub load : (opened : PipeState) (seen : History) → Stems opened old → IsBrought look opened seen old.steps brought → IfJob round (IsLoadOf look opened new.steps)
  pub adds : AddsHold (brought_post (λ home. home.post) brought) (job_post (λ load. load.job.post) round) old.steps new.steps
  pub recorded : old.end ≡ None → HasMemory new.end → IfSome brought (λ home. IfOk home.answer (λ answer. BeginsWith new.steps (with_answered old.topology old.steps answer)))
  pub always : IfSome brought (λ home. IsAlwaysRecorded old.topology old.steps new.steps home.answer)
  pub cut_off : IfSome brought (λ home. IsErr home.answer → IsSome new.end)
  pub one_line : controls new.steps ≤ controls old.steps + 1
  pub ended : IsSome old.end → (new.end ≡ old.end) × AddsOnly old.topology old.steps new.steps brought
  pub away : AreAway (brought_post (λ home. home.post) brought) (job_post (λ load. load.job.post) round) (away_of old) (away_of new)
  pub on : IsOn round → (old.end ≡ None) × GoesOn round new.end
  pub over : IsOver round → IsSome new.end
  pub whole : IsWhole new
  pub waits : IsWaiting round → (move new.topology new.steps ≡ JobsOut) × (jobs_out new.topology new.steps ≡ true)
  pub pauses : HasPaused round → HasPausedAt new.topology new.steps
  pub slept : HasPaused round → Rose old.clock.pauses new.clock.pauses
  pub row : old.end ≡ None → IfJob round (λ load. 1 ≤ old.topology.idle_limit → quiet_row new.steps < old.topology.idle_limit)
  pub rows : old.end ≡ None → HasMemory new.end → KeepsRows old.topology.idle_limit brought old.steps new.steps
  pub lessens : (IsSome brought → quiet_row old.steps < old.topology.idle_limit) → Goes round → holds_left old.topology new.steps (begins_job round) < holds_left old.topology old.steps (is_some brought)
