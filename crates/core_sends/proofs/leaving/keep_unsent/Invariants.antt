use Rattle.std.proofs.Common.{◌≤◌, Some}
use Rattle.core_tables.specs.Tables.{spare_in}
use Rattle.core_sends.specs.Batches.{not_sent}
use Rattle.core_sends.proofs.Kept.{Passed}
use Rattle.core_sends.proofs.leaving.keep_unsent.Given as goal

abbrev pub invariant-loop-k : goal.invariant-loop-k
invariant-loop-k l =
    record {
      passed : Passed (not_sent l.legs) l.fn.queue.items l.queue.items l.k l.left;
      room : spare_in (Some l.fn.queue) ≤ spare_in (Some l.queue);
    }
