-- Steps that a pipeline takes of its own accord.
use Rattle.std.specs.Prelude.{◌≡◌, ◌⊎◌, [], ◌∷◌, IsSome}
use Rattle.pipe_types.specs.declared.topology.Topology.{Topology}
use Rattle.pipe_types.specs.declared.step.DrainCause.TheVariants.{Control}
use Rattle.pipe_types.specs.declared.step.Step.{Step}
use Rattle.pipe_types.specs.declared.step.Step.TheVariants.{Ask, Fetch, Dispatch, Take, Gather, Close, Child, Restart, Drain, Halt}
use Rattle.pipe_model.specs.History.{History}
use Rattle.pipe_model.specs.Legal.{owed}
use Rattle.pipe_model.specs.Moves.{move, StepMove, Job}

-- the step is the next move, or the job of the stage that the next move names; answers, ends, ticks, control steps and
-- the dispatch that an accept owes come from elsewhere
abbrev pub IsNextMove : Topology → History → Step → Type 0
IsNextMove topology before (Ask u n) = move topology before ≡ StepMove (Ask u n)
IsNextMove topology before (Dispatch s) = IsSome (owed topology before) ⊎ (move topology before ≡ StepMove (Dispatch s))
IsNextMove topology before (Close s first trigger) = move topology before ≡ StepMove (Close s first trigger)
IsNextMove topology before (Gather s m) = move topology before ≡ StepMove (Gather s m)
IsNextMove topology before (Restart s) = move topology before ≡ StepMove (Restart s)
IsNextMove topology before Halt = move topology before ≡ StepMove Halt
IsNextMove topology before (Fetch s n) = move topology before ≡ Job s
IsNextMove topology before (Take s u k) = move topology before ≡ Job s
IsNextMove topology before (Child s m slot) = move topology before ≡ Job s
IsNextMove topology before (Drain Control) = Unit {0}
IsNextMove topology before (Drain cause) = move topology before ≡ StepMove (Drain cause)
IsNextMove topology before _ = Unit {0}

-- each step was the next move when it came
abbrev pub FollowsMoves : Topology → History → Type 0
FollowsMoves topology [] = Unit {0}
FollowsMoves topology (step ∷ before) = FollowsMoves topology before × IsNextMove topology before step
