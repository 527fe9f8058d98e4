use Rattle.std.proofs.Common.{◌≡◌, ◌++◌, drop}
use Rattle.pipe_model.specs.Flow.{units_on}
use Rattle.plain_queues.proofs.queues.units_on.Given as goal

abbrev pub invariant-loop-unit : goal.invariant-loop-unit
invariant-loop-unit l = l.on.items ++ units_on l.sub (drop l.unit-index l.units) ≡ units_on l.sub l.units
