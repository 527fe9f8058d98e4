-- Which child may start.
use Rattle.std.specs.Prelude.{ℕ, Bool, if◌then◌else◌, Option, None, option_map, List, slice_get}
use Rattle.std.specs.List.{list_any}
use Rattle.pipe_types.specs.declared.numbers.StageNo.{StageNo}
use Rattle.pipe_types.specs.declared.numbers.MsgNo.{MsgNo}
use Rattle.pipe_types.specs.declared.topology.Topology.{Topology}
use Rattle.pipe_types.specs.declared.step.Step.TheVariants.{Child}
use Rattle.pipe_types.specs.Numbers.{message_no}
use Rattle.pipe_model.specs.History.{History}
use Rattle.pipe_model.specs.Posts.{slots}
use Rattle.pipe_model.specs.Legal.{allows}
use Rattle.pipe_model.specs.Moves.{next_in_slot}
use Rattle.consumer_sup.specs.Children.{Slots}
use Rattle.core_tables.specs.declared.rows.PostRow.{PostRow}
use Rattle.core_tables.specs.Rows.{post_at}
use Rattle.core_state.specs.Readings.{out_in}
use Rattle.core_state.specs.Stands.{child_at}

-- in some slot of the stage a child may start: for the slot's own message, or for the first of the inbox
abbrev pub may_start_child : Topology → History → StageNo → Bool
may_start_child topology before s = list_any (λ slot. allows topology before (Child s (message_no (next_in_slot topology before s slot)) slot)) slots

-- the message of the slot's child, where its job is home
abbrev pub again_in : List Slots → List PostRow → StageNo → (slot : ℕ) → Option MsgNo
again_in children posts s slot = if out_in (slice_get posts (post_at s.0 slot)) then None else option_map (λ child. child.no) (child_at children s slot)
