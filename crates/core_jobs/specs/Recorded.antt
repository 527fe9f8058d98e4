-- How a journal goes on with the answer to a job.
use Rattle.std.specs.Prelude.{Bool, if◌then◌else◌, ◌∷◌}
use Rattle.pipe_types.specs.declared.numbers.Post.{Post}
use Rattle.pipe_types.specs.declared.numbers.StageNo.{StageNo}
use Rattle.pipe_types.specs.declared.topology.Topology.{Topology}
use Rattle.pipe_types.specs.declared.message.Why.TheVariants.{Crash}
use Rattle.pipe_types.specs.declared.step.Step.TheVariants.{Accept, Kill}
use Rattle.pipe_model.specs.History.{History}
use Rattle.core_accepts.specs.Records.{and_dispatch}
use Rattle.stage_bodies.specs.declared.job.Outcome.{Outcome}
use Rattle.stage_bodies.specs.declared.job.Outcome.TheVariants as came
use Rattle.stage_bodies.specs.Posts.{step_of, is_crash}

-- the steps with the kill of the stage, where its handler crashed
abbrev pub and_kill : (crashed : Bool) → StageNo → History → History
and_kill crashed s steps = if crashed then Kill s Crash ∷ steps else steps

-- the journal with the step of the answer, and with the one that it owes: behind records the dispatch, where there is one to
-- make, and behind a crash the kill
abbrev pub with_answer : Topology → History → Post → Outcome → History
with_answer topology before p (came.Records records) = and_dispatch topology (Accept p.stage records ∷ before) p.stage
with_answer topology before p outcome = and_kill (is_crash outcome) p.stage (step_of p outcome ∷ before)
