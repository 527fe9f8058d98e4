-- What a close makes of one row, and when a batch may be closed.
use Rattle.std.specs.Prelude.{◌≡◌, ℕ, ◌≤◌, if◌then◌else◌, remove, IsTrue, List, Option, Some, None}
use Rattle.pipe_types.specs.declared.numbers.StageNo.{StageNo}
use Rattle.pipe_types.specs.declared.numbers.MsgNo.{MsgNo}
use Rattle.pipe_types.specs.declared.message.Place.{Place}
use Rattle.pipe_types.specs.declared.message.Place.TheVariants.{Gathered, InBatch}
use Rattle.pipe_types.specs.declared.message.Trigger.{Trigger}
use Rattle.pipe_types.specs.declared.topology.Topology.{Topology}
use Rattle.pipe_types.specs.declared.topology.StageSpec.{StageSpec}
use Rattle.pipe_types.specs.declared.topology.Dispatch.TheVariants.{Partition}
use Rattle.pipe_types.specs.Dispatchers.{partition_of}
use Rattle.pipe_types.specs.declared.step.Step.TheVariants.{Close}
use Rattle.pipe_types.specs.Numbers.{same_stage, batch_no}
use Rattle.pipe_model.specs.History.{History}
use Rattle.pipe_model.specs.Legal.{allows}
use Rattle.batcher.specs.Batches.{Batches}
use Rattle.core_laws.specs.Columns.{is_by_partition}

-- the open batch that begins with the message may be closed, by some trigger
pub record MayClose (topology : Topology) (before : History) (s : StageNo) (first : MsgNo) : Type 0 where
  pub trigger : Trigger
  pub legal : IsTrue (allows topology before (Close s first trigger))

-- a batcher without the open batch at that place
abbrev pub without_open : (at : ℕ) → Batches → Batches
without_open at held = record held { batches = remove held.batches at }

-- where a message of the batch stands that the stage gathered
abbrev pub join_in : StageNo → ℕ → Place → Place
join_in s b (Gathered t) = if same_stage s t then InBatch (batch_no b) else Gathered t
join_in s b place = place

-- the partition of a batch of this key in a batcher: 0 where it does not dispatch by partition
abbrev pub batch_part : Option StageSpec → (key : List ℕ) → ℕ
batch_part None key = 0
batch_part (Some spec) key = if is_by_partition spec.dispatch then partition_of key spec.parts else 0

-- a stage that dispatches by partition has a part
pub record HasParts (spec : StageSpec) : Type 0 where
  pub some : spec.dispatch ≡ Partition → 1 ≤ spec.parts
