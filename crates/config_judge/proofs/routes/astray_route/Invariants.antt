use Rattle.std.proofs.Common.{◌≡◌, drop}
use Rattle.config_table.specs.Fault.{least, sooner}
use Rattle.config_judge.specs.Judge.{astray_routes}
use Rattle.config_judge.proofs.routes.astray_route.Given as goal

abbrev pub invariant-loop-i : goal.invariant-loop-i
invariant-loop-i l = sooner l.found (least (astray_routes l.path l.known l.i (drop l.i l.texts))) ≡ least (astray_routes l.path l.known 0 l.texts)
