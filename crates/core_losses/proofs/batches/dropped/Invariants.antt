use Rattle.std.proofs.Common.{◌≡◌, drop}
use Rattle.core_deaths.specs.Reasons.{reason_at}
use Rattle.core_losses.specs.Batches.{drop_in, first_loss}
use Rattle.core_losses.proofs.batches.dropped.Given as goal

abbrev pub invariant-loop-spec : goal.invariant-loop-spec
invariant-loop-spec l =
    record { left : first_loss (drop_in l.rows l.waiting (reason_at l.killed) l.no.0) (drop l.spec-index l.specs) ≡ first_loss (drop_in l.rows l.waiting (reason_at l.killed) l.no.0) l.specs }
