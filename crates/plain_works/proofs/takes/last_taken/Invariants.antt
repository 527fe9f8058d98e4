use Rattle.std.proofs.Common.{◌≡◌, drop}
use Rattle.plain_works.specs.Works.{units_by}
use Rattle.plain_works.proofs.takes.last_taken.Given as goal

abbrev pub invariant-loop-taken : goal.invariant-loop-taken
invariant-loop-taken l = units_by (drop l.taken-index l.takes) l.stage ≡ units_by l.takes l.stage
