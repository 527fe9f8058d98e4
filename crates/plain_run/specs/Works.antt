-- What handlers were shown and answered, by stage.
use Rattle.std.specs.Prelude.{◌≡◌, ℕ, suc, ◌-◌, ◌*◌, ◌<◌, ◌≤◌, ◌==◌, true, if◌then◌else◌, List, [], length, All, Option, Some, None, slice_get, slice_index}
use Rattle.pipe_types.specs.declared.numbers.StageNo.{StageNo}
use Rattle.pipe_types.specs.declared.topology.Topology.{Topology}
use Rattle.pipe_types.specs.declared.topology.StageSpec.{StageSpec}
use Rattle.pipe_types.specs.Handlers.{count_after_batch}
use Rattle.pipe_types.specs.declared.message.Message.{Message}
use Rattle.pipe_model.specs.History.{History}
use Rattle.pipe_model.specs.Posts.{in_slot}
use Rattle.pipe_model.specs.Work.{taken_units, count}
use Rattle.pipe_model.specs.Legal.{has_role, is_processor_role}
use Rattle.core_tables.specs.declared.rows.BatchRow.{BatchRow}
use Rattle.core_tables.specs.Tables.{list_at}
use Rattle.core_tables.specs.Rows.{post_at}
use Rattle.plain_run.specs.declared.works.Works.{Works}

-- the message in the row, and none past the end of the table
abbrev pub held_in : Option (Option ℕ) → Option ℕ
held_in None = None
held_in (Some held) = held

-- each table has a row for each stage and the control source, or for each of their posts
pub record AreSized (topology : Topology) (works : Works) : Type 0 where
  pub taken : length works.taken.items ≡ suc (length topology.stages)
  pub counts : length works.counts.items ≡ suc (length topology.stages)
  pub started : length works.started.items ≡ suc (length topology.stages) * 16

-- what the last take of each stage took, how many messages its handler has seen, and the message last started in each slot
pub record WorksStand (topology : Topology) (before : History) (works : Works) : Type 0 where
  pub sized : AreSized topology works
  pub taken : (s : StageNo) → list_at works.taken.items s ≡ taken_units topology before s
  pub least : (s : StageNo) → has_role topology s is_processor_role ≡ true → All (λ n. 1 ≤ n) (taken_units topology before s)
  pub counts : (s : StageNo) → slice_index works.counts.items s.0 ≡ count topology before s
  pub started : (s : StageNo) (slot : ℕ) → s.0 ≤ length topology.stages → slot < 16 → slice_get works.started.items (post_at s.0 slot) ≡ Some (in_slot before s slot)

-- the messages of the row, and none where it is not there
abbrev pub numbers_of : Option BatchRow → List ℕ
numbers_of None = []
numbers_of (Some row) = row.numbers.items

-- the messages of the closed batch with that number, from 1
abbrev pub numbers_at : List BatchRow → ℕ → List ℕ
numbers_at rows n = if n == 0 then [] else numbers_of (slice_get rows (n - 1))

-- the count that a batch leaves
abbrev pub count_with : Option StageSpec → (old : ℕ) → List Message → ℕ
count_with None old messages = old
count_with (Some spec) old messages = count_after_batch spec old messages
