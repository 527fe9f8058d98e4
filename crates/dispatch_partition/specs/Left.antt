-- What is left of a room's open demand.
use Rattle.std.specs.Prelude.{◌-◌, ◌==◌, Option, None, Some, if◌then◌else◌}
use Rattle.pipe_types.specs.declared.numbers.SubNo.{SubNo}
use Rattle.pipe_types.specs.declared.room.Room.{Room}

-- the subscription of a room with demand
abbrev pub next_sub : Option Room → Option SubNo
next_sub None = None
next_sub (Some u) = if u.left == 0 then None else Some u.sub

-- one unit less, as long as there is one
abbrev pub one_less : Option Room → Option Room
one_less None = None
one_less (Some u) = Some (record u { left = u.left - 1 })
