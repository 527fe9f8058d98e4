use Rattle.std.proofs.Common.{◌≡◌, take}
use Rattle.pipe_types.specs.Dispatchers.{ahead}
use Rattle.plain_dispatch.proofs.ahead.Given as goal

abbrev pub invariant-loop-v : goal.invariant-loop-v
invariant-loop-v l = l.sum ≡ ahead (take l.v-index l.rooms) l.u
