-- The room of a history by its view.
use Rattle.std.proofs.Common.{◌≡◌, ℕ, ◌+◌, List, [], ◌∷◌, refl, ap}
use Rattle.pipe_types.specs.declared.numbers.StageNo.{StageNo}
use Rattle.pipe_types.specs.declared.numbers.SubNo.{SubNo}
use Rattle.pipe_types.specs.declared.topology.Topology.{Topology}
use Rattle.pipe_model.specs.History.{History}
use Rattle.pipe_model.specs.Lives.{live_subs}
use Rattle.pipe_model.specs.Flow.{view_of, open_demand, room}
use Rattle.plain_sends.specs.Rooms.{sum_by_subs}

abbrev sum_open : Topology → History → List SubNo → ℕ
sum_open topology before [] = 0
sum_open topology before (u ∷ subs) = open_demand topology before u + sum_open topology before subs

sum_is : (topology : Topology) (before : History) (subs : List SubNo) → sum_by_subs topology before (view_of topology before) subs ≡ sum_open topology before subs
sum_is topology before [] = refl
sum_is topology before (u ∷ subs) = ap (λ (n : ℕ). open_demand topology before u + n) (sum_is topology before subs)

pub room_is : (topology : Topology) (before : History) (s : StageNo) → sum_by_subs topology before (view_of topology before) (live_subs topology before s) ≡ room topology before s
room_is topology before s = sum_is topology before (live_subs topology before s)
