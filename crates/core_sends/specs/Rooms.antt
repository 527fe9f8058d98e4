-- The rooms of a stage, and what a dispatch sends by the places of the units.
use Rattle.std.specs.Prelude.{ℕ, ◌-◌, if◌then◌else◌, ◌&&◌, List, [], ◌∷◌, ◌++◌, length, map, Option, Some, None}
use Rattle.pipe_types.specs.declared.numbers.StageNo.{StageNo}
use Rattle.pipe_types.specs.declared.numbers.SubNo.{SubNo}
use Rattle.pipe_types.specs.declared.room.Room.{Room}
use Rattle.pipe_types.specs.declared.room.Sent.{Sent}
use Rattle.pipe_types.specs.declared.topology.Topology.{Topology}
use Rattle.pipe_types.specs.Stages.{spec_of, feeds}
use Rattle.pipe_types.specs.Dispatchers.{sends_by_place}
use Rattle.pipe_model.specs.History.{History, asked}
use Rattle.pipe_model.specs.Lives.{is_live, current_sub}
use Rattle.core_laws.specs.Columns.{is_broadcast}
use Rattle.pipe_model.specs.Flow.{sent, index_in, kind_in, served_by, serving_by, rooms_by, view_of, waiting, mark_in}

-- the subscription with what was asked on it and not sent
abbrev pub room_on : Topology → History → SubNo → Room
room_on topology before u = record { sub = u; part = index_in (spec_of topology u.consumer); left = asked before u - sent topology before u }

-- the room of the pair's present subscription, where the consumer takes from the producer and is live
abbrev pub room_between : Topology → History → (producer consumer : StageNo) → Option Room
room_between topology before p c =
    if feeds topology p c && is_live topology before c then Some (room_on topology before (current_sub topology before c p)) else None

-- the rooms with one more where there is one
abbrev pub and_room : List Room → Option Room → List Room
and_room rooms None = rooms
and_room rooms (Some room) = rooms ++ room ∷ []

-- what the dispatcher judges the units by that wait in the stage
abbrev pub marks_of : Topology → History → StageNo → List ℕ
marks_of topology before s = map (λ n. mark_in before (view_of topology before) (spec_of topology s) n) (waiting topology before s)

-- what a dispatch of the stage sends by the units' places, where units of these marks wait behind those that are there
abbrev pub planned : Topology → History → StageNo → (more : List ℕ) → List Sent
planned topology before s more =
    sends_by_place (serving_by topology before (view_of topology before) s) (rooms_by topology before (view_of topology before) s) (marks_of topology before s ++ more)

-- how many of the first batches a dispatch of the stage serves, whoever picks them: those that it broadcasts
abbrev pub served_first : Topology → History → StageNo → ℕ
served_first topology before s =
    if is_broadcast (kind_in (spec_of topology s)) then length (served_by topology before (view_of topology before) s) else 0
