use Rattle.std.proofs.Common.{◌≡◌}
use Rattle.pipe_model.specs.Legal.{none_before}
use Rattle.plain_queues.specs.Flows.{topology_of, history_of}
use Rattle.plain_rows.proofs.closes.none_before.Given as goal

abbrev pub invariant-loop-i : goal.invariant-loop-i
invariant-loop-i l = l.none ≡ none_before (topology_of l.flow) (history_of l.flow) l.batcher l.i
