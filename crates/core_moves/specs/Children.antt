-- Which children may start, as the rows give it.
use Rattle.std.specs.Prelude.{ℕ, Bool, ◌&&◌, ◌||◌, not, nat_lt, nat_le, is_some}
use Rattle.pipe_types.specs.declared.topology.Topology.{Topology}
use Rattle.pipe_types.specs.declared.topology.StageSpec.{StageSpec}
use Rattle.pipe_types.specs.Numbers.{post}
use Rattle.pipe_model.specs.History.{History}
use Rattle.pipe_model.specs.Posts.{is_out}
use Rattle.pipe_model.specs.Lives.{is_live}
use Rattle.pipe_model.specs.Flow.{inbox}
use Rattle.pipe_model.specs.Legal.{is_supervisor_role, first_unit}
use Rattle.core_laws.specs.Columns.{child_row}

-- a message runs in the slot, or one stands in the inbox and the slot is one of the stage's
abbrev pub has_message_now : Topology → History → StageSpec → (slot : ℕ) → Bool
has_message_now topology before spec slot =
    is_some (child_row topology before spec.no slot) || (nat_le 1 (first_unit (inbox topology before spec.no)) && nat_lt slot spec.max)

-- and the supervisor is live and no child of the slot is out
abbrev pub starts_now : Topology → History → StageSpec → (slot : ℕ) → Bool
starts_now topology before spec slot =
    is_live topology before spec.no
    && (is_supervisor_role spec.role && (not (is_out before (post spec.no slot)) && has_message_now topology before spec slot))
