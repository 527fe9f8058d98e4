use Rattle.std.proofs.Common.{◌≡◌}
use Rattle.pipe_types.proofs.Sends.{sends_of}
use Rattle.pipe_types.specs.Dispatchers.{ByBroadcast, picks_all}
use Rattle.dispatch_broadcast.proofs.BroadcastDispatch.deliver.Given as goal

abbrev pub invariant-loop-unit : goal.invariant-loop-unit
invariant-loop-unit l = l.sent.items ≡ sends_of (ByBroadcast picks_all) l.room l.unit
