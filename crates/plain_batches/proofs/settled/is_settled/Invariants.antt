use Rattle.std.proofs.Common.{◌≡◌, drop, map}
use Rattle.pipe_model.specs.Batches as model
use Rattle.plain_queues.specs.Views.{leg_of}
use Rattle.plain_batches.proofs.settled.is_settled.Given as goal

abbrev pub invariant-loop-leg : goal.invariant-loop-leg
invariant-loop-leg l = model.is_settled (map leg_of (drop l.leg-index l.legs)) ≡ model.is_settled (map leg_of l.legs)
