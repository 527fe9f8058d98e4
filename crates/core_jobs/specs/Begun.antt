-- How a journal goes on where a job begins.
use Rattle.std.specs.Prelude.{◌≡◌, ℕ, ◌∷◌, Some}
use Rattle.pipe_types.specs.declared.numbers.StageNo.{StageNo}
use Rattle.pipe_types.specs.declared.numbers.SubNo.{SubNo}
use Rattle.pipe_types.specs.declared.topology.Topology.{Topology}
use Rattle.pipe_types.specs.declared.step.Step.TheVariants.{Fetch, Take, Child}
use Rattle.pipe_types.specs.Numbers.{post, message_no}
use Rattle.pipe_model.specs.History.{History}
use Rattle.pipe_model.specs.Jobs.{take_step}
use Rattle.pipe_model.specs.Legal.{bound}
use Rattle.pipe_model.specs.Moves.{next_in_slot}
use Rattle.stage_bodies.specs.declared.job.Job.{Job}
use Rattle.stage_bodies.specs.declared.job.Work.{Work}
use Rattle.stage_bodies.specs.declared.job.Work.TheVariants as work
use Rattle.core_takes.specs.declared.takes.Chunk.{Chunk}
use Rattle.core_takes.specs.declared.takes.Chunk.TheVariants as chunk

-- the journal went on by just the step that begins this job of the stage: the fetch of as many records as it may bring, the
-- take of what stands first in its inbox, or the child of a slot
pub data IsBegun (topology : Topology) (before : History) (s : StageNo) (after : History) (job : Job) : Type 0 where
  fetched : job.post ≡ post s 0 → after ≡ Fetch s (bound topology before s) ∷ before → IsBegun topology before s after job
  taken : (u : SubNo) (k : ℕ) → job.post ≡ post s 0 → take_step topology before s ≡ Some (Take s u k) → after ≡ Take s u k ∷ before → IsBegun topology before s after job
  started : (slot : ℕ) → job.post ≡ post s slot → after ≡ Child s (message_no (next_in_slot topology before s slot)) slot ∷ before → IsBegun topology before s after job

-- the work on what was taken
abbrev pub work_on : Chunk → Work
work_on (chunk.Messages messages) = work.Chunk messages
work_on (chunk.Batch batch) = work.Batch batch
