use Rattle.std.proofs.Common.{◌≡◌, ◌++◌, drop, map}
use Rattle.plain_queues.specs.Flows.{topology_of, history_of}
use Rattle.plain_queues.specs.Views.{view_in}
use Rattle.plain_sends.specs.Rooms.{room_by}
use Rattle.plain_sends.proofs.demand.rooms.Given as goal

abbrev pub invariant-loop-sub : goal.invariant-loop-sub
invariant-loop-sub l = l.rooms.items ++ map (room_by (topology_of l.flow) (history_of l.flow) (view_in l.flow.tables.now)) (drop l.sub-index l.subs) ≡ map (room_by (topology_of l.flow) (history_of l.flow) (view_in l.flow.tables.now)) l.subs
