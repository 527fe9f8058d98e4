use Rattle.std.proofs.Common.{◌≡◌, ◌++◌, drop, map}
use Rattle.pipe_model.specs.Batches as model
use Rattle.plain_queues.specs.Views.{leg_of}
use Rattle.plain_batches.specs.Changes.{change_of}
use Rattle.plain_batches.proofs.legs.legs_after.Given as goal

abbrev pub invariant-loop-leg : goal.invariant-loop-leg
invariant-loop-leg l = map leg_of l.new.items ++ model.on_legs (change_of l.change) (map leg_of (drop l.leg-index l.legs)) ≡ model.on_legs (change_of l.change) (map leg_of l.legs)
