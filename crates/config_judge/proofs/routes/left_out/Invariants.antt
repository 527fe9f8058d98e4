use Rattle.std.proofs.Common.{◌≡◌, drop}
use Rattle.config_table.specs.Fault.{least, sooner}
use Rattle.config_judge.specs.Judge.{left_out}
use Rattle.config_judge.proofs.routes.left_out.Given as goal

abbrev pub invariant-loop-i : goal.invariant-loop-i
invariant-loop-i l = sooner l.found (least (left_out l.known l.steps l.i (drop l.i l.batchers))) ≡ least (left_out l.known l.steps 0 l.batchers)
