use Rattle.std.proofs.Common.{◌≡◌, ◌+◌, drop}
use Rattle.core_batches.specs.Writes.{leg_place}
use Rattle.core_batches.proofs.settles.leg_on.Given as goal

abbrev pub invariant-loop-other : goal.invariant-loop-other
invariant-loop-other l = record { counted : l.leg ≡ l.other-index; before : leg_place l.sub l.subs ≡ l.leg + leg_place l.sub (drop l.other-index l.subs) }
