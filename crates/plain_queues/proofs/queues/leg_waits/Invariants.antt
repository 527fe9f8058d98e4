use Rattle.std.proofs.Common.{◌≡◌, drop, map}
use Rattle.pipe_model.specs.Flow.{leg_waits}
use Rattle.plain_queues.specs.Views.{leg_of}
use Rattle.plain_queues.proofs.queues.leg_waits.Given as goal

abbrev pub invariant-loop-leg : goal.invariant-loop-leg
invariant-loop-leg l = leg_waits l.sub (map leg_of (drop l.leg-index l.legs)) ≡ leg_waits l.sub (map leg_of l.legs)
