-- What a broadcast sends and serves of the first batches of a queue, and the picks by which it does.
use Rattle.std.specs.Prelude.{ℕ, Bool, List, [], ◌∷◌, ◌++◌, length, map, get_or}
use Rattle.pipe_types.specs.declared.numbers.StageNo.{StageNo}
use Rattle.pipe_types.specs.declared.numbers.SubNo.{SubNo}
use Rattle.pipe_types.specs.declared.room.Room.{Room}
use Rattle.pipe_types.specs.declared.room.Sent.{Sent}
use Rattle.pipe_types.specs.declared.topology.Topology.{Topology}
use Rattle.pipe_types.specs.Stages.{spec_of}
use Rattle.pipe_types.specs.Dispatchers.{ByBroadcast, sends_by_place, serves_by_place}
use Rattle.pipe_types.specs.Handlers.{begins_with}
use Rattle.pipe_model.specs.History.{History}
use Rattle.pipe_model.specs.Flow.{select_in, picks_by, rooms_by, view_of, waiting}
use Rattle.dispatch_broadcast.specs.Picks.{places}

-- the subscription picks the batches of this key
abbrev pub picks_key : Topology → (key : List ℕ) → SubNo → Bool
picks_key topology key u = begins_with (select_in (spec_of topology u.consumer)) key

-- whether each room's subscription picks the unit
abbrev pub picks_row : (SubNo → Bool) → List Room → List Bool
picks_row picks rooms = map (λ r. picks r.sub) rooms

-- the same unit after unit
abbrev pub picks_list : (ℕ → SubNo → Bool) → List Room → (units : List ℕ) → List Bool
picks_list picks rooms [] = []
picks_list picks rooms (n ∷ units) = picks_row (picks n) rooms ++ picks_list picks rooms units

-- the subscription picks the batch that waits at that place
abbrev pub picks_at : Topology → History → StageNo → ℕ → SubNo → Bool
picks_at topology before s j u = picks_by topology before (view_of topology before) (get_or (waiting topology before s) j 0) u

-- what a broadcast sends of the first so many batches, by their places
abbrev pub first_sends : Topology → History → StageNo → (count : ℕ) → List Sent
first_sends topology before s count =
    sends_by_place (ByBroadcast (picks_at topology before s)) (rooms_by topology before (view_of topology before) s) (places count)

-- how many of them it serves
abbrev pub first_serves : Topology → History → StageNo → (count : ℕ) → ℕ
first_serves topology before s count =
    length (serves_by_place (ByBroadcast (picks_at topology before s)) (rooms_by topology before (view_of topology before) s) (places count))
