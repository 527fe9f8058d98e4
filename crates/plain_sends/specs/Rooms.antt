-- Open demand by a view.
use Rattle.std.specs.Prelude.{ℕ, ◌+◌, ◌-◌, if◌then◌else◌, List, [], ◌∷◌}
use Rattle.pipe_types.specs.declared.numbers.SubNo.{SubNo}
use Rattle.pipe_types.specs.declared.topology.Topology.{Topology}
use Rattle.pipe_types.specs.declared.room.Room.{Room}
use Rattle.pipe_types.specs.Stages.{spec_of}
use Rattle.pipe_model.specs.History.{History, asked}
use Rattle.pipe_model.specs.Lives.{is_live_sub}
use Rattle.pipe_model.specs.Flow.{View, index_in}

-- the subscription with its consumer's place in the group and its open demand
abbrev pub room_by : Topology → History → View → SubNo → Room
room_by topology before view u = record { sub = u; part = index_in (spec_of topology u.consumer); left = asked before u - view.sent u }

-- what was asked and not sent yet, and 0 on a closed subscription
abbrev pub open_by : Topology → History → View → SubNo → ℕ
open_by topology before view u = if is_live_sub topology before u then asked before u - view.sent u else 0

-- the open demand of these subscriptions
abbrev pub sum_by_subs : Topology → History → View → List SubNo → ℕ
sum_by_subs topology before view [] = 0
sum_by_subs topology before view (u ∷ subs) = open_by topology before view u + sum_by_subs topology before view subs
