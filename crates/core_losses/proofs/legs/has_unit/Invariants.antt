use Rattle.std.proofs.Common.{◌≡◌, drop}
use Rattle.pipe_model.specs.Standing.{has_entry}
use Rattle.core_losses.proofs.legs.has_unit.Given as goal

abbrev pub invariant-loop-k : goal.invariant-loop-k
invariant-loop-k l = record { left : has_entry l.sub l.unit (drop l.k l.inbox.items) ≡ has_entry l.sub l.unit l.inbox.items }
