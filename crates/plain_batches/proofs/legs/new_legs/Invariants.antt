use Rattle.std.proofs.Common.{◌≡◌, ◌++◌, drop, map}
use Rattle.pipe_model.specs.Batches as model
use Rattle.plain_queues.specs.Views.{leg_of}
use Rattle.plain_batches.proofs.legs.new_legs.Given as goal

abbrev pub invariant-loop-sub : goal.invariant-loop-sub
invariant-loop-sub l = map leg_of l.new.items ++ model.new_legs (drop l.sub-index l.subs) ≡ model.new_legs l.subs
