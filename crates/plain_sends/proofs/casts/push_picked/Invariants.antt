use Rattle.std.proofs.Common.{◌≡◌, ◌++◌, drop}
use Rattle.std.specs.Prelude.{filter}
use Rattle.pipe_types.specs.Dispatchers.{on_each}
use Rattle.pipe_model.specs.Flow.{picks_by}
use Rattle.plain_queues.specs.Flows.{topology_of, history_of}
use Rattle.plain_queues.specs.Views.{view_in}
use Rattle.plain_sends.proofs.casts.push_picked.Given as goal

abbrev pub invariant-loop-room : goal.invariant-loop-room
invariant-loop-room l =
    l.more.items ++ on_each l.batch (filter (λ r. picks_by (topology_of l.flow) (history_of l.flow) (view_in l.flow.tables.now) l.batch r.sub) (drop l.room-index l.rooms))
    ≡ l.fn.sent.items ++ on_each l.batch (filter (λ r. picks_by (topology_of l.flow) (history_of l.flow) (view_in l.flow.tables.now) l.batch r.sub) l.rooms)
