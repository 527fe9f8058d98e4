use Rattle.std.proofs.Common.{drop}
use Rattle.stage_callback.proofs.BatchSteps.{BatchSoFar}
use Rattle.stage_callback.proofs.batches.pass_all.Given as goal

abbrev pub invariant-loop-message : goal.invariant-loop-message
invariant-loop-message l =
    BatchSoFar l.kind l.spec l.count l.messages l.seen (drop l.message-index l.messages) l.outcomes.items l.text.items
