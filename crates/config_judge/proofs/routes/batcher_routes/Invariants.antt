use Rattle.std.proofs.Common.{◌≡◌, drop}
use Rattle.config_table.specs.Fault.{least, sooner}
use Rattle.config_judge.specs.Judge.{batcher_routes}
use Rattle.config_judge.proofs.routes.batcher_routes.Given as goal

abbrev pub invariant-loop-i : goal.invariant-loop-i
invariant-loop-i l = sooner l.found (least (batcher_routes l.i (drop l.i l.batchers))) ≡ least (batcher_routes 0 l.batchers)
