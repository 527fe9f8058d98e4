use Rattle.std.proofs.Common.{◌≡◌, ◌≤◌, take}
use Rattle.std.specs.Prelude.{count_by}
use Rattle.pipe_model.specs.Flow.{picks_by}
use Rattle.plain_queues.specs.Flows.{topology_of, history_of}
use Rattle.plain_queues.specs.Views.{view_in}
use Rattle.plain_sends.proofs.casts.picked.Given as goal

abbrev pub invariant-loop-batch : goal.invariant-loop-batch
invariant-loop-batch l =
    (l.count ≡ count_by (λ b. picks_by (topology_of l.flow) (history_of l.flow) (view_in l.flow.tables.now) b l.sub) (take l.batch-index l.batches)) × (l.count ≤ l.batch-index)
