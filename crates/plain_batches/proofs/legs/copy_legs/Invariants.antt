use Rattle.std.proofs.Common.{◌≡◌, ◌++◌, drop, map}
use Rattle.plain_queues.specs.Views.{leg_of}
use Rattle.plain_batches.proofs.legs.copy_legs.Given as goal

abbrev pub invariant-loop-leg : goal.invariant-loop-leg
invariant-loop-leg l = map leg_of l.new.items ++ map leg_of (drop l.leg-index l.legs) ≡ map leg_of l.legs
