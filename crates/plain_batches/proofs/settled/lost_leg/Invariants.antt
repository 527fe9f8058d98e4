use Rattle.std.proofs.Common.{◌≡◌, drop, map}
use Rattle.pipe_model.specs.Batches as model
use Rattle.plain_queues.specs.Views.{leg_of}
use Rattle.plain_batches.proofs.settled.lost_leg.Given as goal

abbrev pub invariant-loop-leg : goal.invariant-loop-leg
invariant-loop-leg l = model.lost_leg (map leg_of (drop l.leg-index l.legs)) ≡ model.lost_leg (map leg_of l.legs)
