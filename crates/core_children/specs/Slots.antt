-- The slots of one stage in the table of children.
use Rattle.std.specs.Prelude.{◌+◌, Bool, true, false, List, [], Option, None, Some, slice_get}
use Rattle.pipe_types.specs.declared.numbers.StageNo.{StageNo}
use Rattle.consumer_sup.specs.Children.{Slots}
use Rattle.consumer_sup.specs.declared.Child.{Child}
use Rattle.consumer_sup.specs.declared.ChildEnd.{ChildEnd}
use Rattle.consumer_sup.specs.declared.ChildEnd.TheVariants.{Again}

abbrev pub slots_in : Option Slots → List (Option Child)
slots_in None = []
slots_in (Some held) = held.slots

-- what stands in the stage's slots, and none past the end of the table
abbrev pub slots_at : List Slots → StageNo → List (Option Child)
slots_at table s = slots_in (slice_get table s.0)

abbrev pub is_again : ChildEnd → Bool
is_again Again = true
is_again _ = false

-- what stands in the slot of a child whose run ended
abbrev pub left_in : (again : Bool) → Child → Option Child
left_in true child = Some (record { no = child.no; crashes = child.crashes + 1 })
left_in false child = None
