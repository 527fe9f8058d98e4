use Rattle.std.proofs.Common.{◌≡◌, map, take, min}
use Rattle.pipe_types.proofs.Sends.{sends_of}
use Rattle.pipe_types.specs.Dispatchers.{ByDemand}
use Rattle.dispatch_demand.proofs.Places.{bare}
use Rattle.dispatch_demand.proofs.Units.{demand}
use Rattle.dispatch_demand.proofs.DemandDispatch.deliver.Given as goal

abbrev pub invariant-loop-served : goal.invariant-loop-served
invariant-loop-served l = record {
  taken : l.next ≡ min l.waiting (demand (take l.served-index l.served-items));
  sent : l.sent.items ≡ sends_of ByDemand (map bare l.room) l.next;
}
