use Rattle.std.proofs.Common.{◌≡◌, ◌++◌}
use Rattle.dispatch_demand.specs.Run.{run}
use Rattle.dispatch_demand.proofs.send_run.Given as goal

abbrev pub invariant-loop-k : goal.invariant-loop-k
invariant-loop-k l = l.sent.items ≡ l.fn.sent.items ++ run l.first l.k l.sub
