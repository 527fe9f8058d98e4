use Rattle.std.proofs.Common.{◌≤◌, Some}
use Rattle.core_tables.specs.Tables.{spare_in}
use Rattle.core_sends.specs.Losing.{still_waits}
use Rattle.core_sends.proofs.Kept.{Passed}
use Rattle.core_sends.proofs.leaving.keep_waiting.Given as goal

abbrev pub invariant-loop-k : goal.invariant-loop-k
invariant-loop-k l =
    record {
      passed : Passed (still_waits l.places.items l.stage) l.fn.queue.items l.queue.items l.k l.kept;
      room : spare_in (Some l.fn.queue) ≤ spare_in (Some l.queue);
    }
