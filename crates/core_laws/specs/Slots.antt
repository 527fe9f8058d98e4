-- The child of a slot, by where its message stands.
use Rattle.std.specs.Prelude.{ℕ, Bool, true, false, Option, Some, None}
use Rattle.pipe_types.specs.declared.numbers.StageNo.{StageNo}
use Rattle.pipe_types.specs.declared.topology.Topology.{Topology}
use Rattle.pipe_types.specs.Numbers.{message_no}
use Rattle.pipe_model.specs.History.{History}
use Rattle.pipe_model.specs.Posts.{in_slot, crashes}
use Rattle.pipe_model.specs.Flow.{place, runs_in}
use Rattle.consumer_sup.specs.declared.Child.{Child as ChildRow}

abbrev pub child_if : (runs : Bool) → (n crashes : ℕ) → Option ChildRow
child_if true n crashes = Some (record { no = message_no n; crashes = crashes })
child_if false n crashes = None

-- this message, where it runs in the stage, and how many of its children crashed
abbrev pub child_of : Topology → History → StageNo → Option ℕ → Option ChildRow
child_of topology before s None = None
child_of topology before s (Some n) = child_if (runs_in s (place topology before n)) n (crashes before n)

-- the message that was last started in the slot, where it runs in the stage
abbrev pub child_in_slot : Topology → History → StageNo → (slot : ℕ) → Option ChildRow
child_in_slot topology before s slot = child_of topology before s (in_slot before s slot)
