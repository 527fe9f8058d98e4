use Rattle.std.proofs.Common.{◌≡◌, ◌+◌, drop}
use Rattle.plain_queues.specs.Flows.{topology_of, history_of}
use Rattle.plain_queues.specs.Views.{view_in}
use Rattle.plain_sends.specs.Rooms.{sum_by_subs}
use Rattle.plain_sends.proofs.demand.room.Given as goal

abbrev pub invariant-loop-sub : goal.invariant-loop-sub
invariant-loop-sub l = l.sum + sum_by_subs (topology_of l.flow) (history_of l.flow) (view_in l.flow.tables.now) (drop l.sub-index l.subs) ≡ sum_by_subs (topology_of l.flow) (history_of l.flow) (view_in l.flow.tables.now) l.subs
