use Rattle.std.proofs.Common.{◌≡◌, ◌++◌, take, drop}
use Rattle.std.specs.Prelude.{reverse}
use Rattle.pipe_types.specs.Dispatchers.{ByBroadcast, sends_from, sends, serves_from, serves}
use Rattle.pipe_model.specs.Flow.{picks_by}
use Rattle.plain_queues.specs.Flows.{topology_of, history_of}
use Rattle.plain_queues.specs.Views.{view_in}
use Rattle.plain_sends.specs.Casts.{with_selves}
use Rattle.plain_sends.proofs.casts.cast.Given as goal

abbrev pub invariant-loop-i : goal.invariant-loop-i
invariant-loop-i l =
    (l.sent.items ++ sends_from (ByBroadcast (picks_by (topology_of l.flow) (history_of l.flow) (view_in l.flow.tables.now))) l.rooms (reverse (take l.i l.batches)) (with_selves (drop l.i l.batches)) ≡ sends (ByBroadcast (picks_by (topology_of l.flow) (history_of l.flow) (view_in l.flow.tables.now))) l.rooms (with_selves l.batches))
    × (l.served.items ++ serves_from (ByBroadcast (picks_by (topology_of l.flow) (history_of l.flow) (view_in l.flow.tables.now))) l.rooms (reverse (take l.i l.batches)) (with_selves (drop l.i l.batches)) ≡ serves (ByBroadcast (picks_by (topology_of l.flow) (history_of l.flow) (view_in l.flow.tables.now))) l.rooms (with_selves l.batches))
