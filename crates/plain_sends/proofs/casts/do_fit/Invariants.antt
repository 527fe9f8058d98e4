use Rattle.std.proofs.Common.{◌≡◌, drop}
use Rattle.pipe_types.specs.Dispatchers.{fit_all}
use Rattle.pipe_model.specs.Flow.{picks_by}
use Rattle.plain_queues.specs.Flows.{topology_of, history_of}
use Rattle.plain_queues.specs.Views.{view_in}
use Rattle.plain_sends.proofs.casts.do_fit.Given as goal

abbrev pub invariant-loop-room : goal.invariant-loop-room
invariant-loop-room l =
    fit_all (picks_by (topology_of l.flow) (history_of l.flow) (view_in l.flow.tables.now)) (drop l.room-index l.rooms) l.batches
    ≡ fit_all (picks_by (topology_of l.flow) (history_of l.flow) (view_in l.flow.tables.now)) l.rooms l.batches
