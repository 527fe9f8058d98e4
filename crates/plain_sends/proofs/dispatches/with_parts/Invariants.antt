use Rattle.std.proofs.Common.{◌≡◌, ◌++◌, drop, map}
use Rattle.pipe_types.specs.Stages.{spec_of}
use Rattle.pipe_model.specs.Flow.{partition_in}
use Rattle.plain_queues.specs.Flows.{topology_of, history_of}
use Rattle.plain_queues.specs.Views.{view_in}
use Rattle.plain_sends.proofs.dispatches.with_parts.Given as goal

abbrev pub invariant-loop-n : goal.invariant-loop-n
invariant-loop-n l = l.all.items ++ map (λ n. (n, partition_in (history_of l.flow) (view_in l.flow.tables.now) (spec_of (topology_of l.flow) l.stage) n)) (drop l.n-index l.units) ≡ map (λ n. (n, partition_in (history_of l.flow) (view_in l.flow.tables.now) (spec_of (topology_of l.flow) l.stage) n)) l.units
