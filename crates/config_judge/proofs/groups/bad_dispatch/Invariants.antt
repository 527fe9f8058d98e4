use Rattle.std.proofs.Common.{◌≡◌, drop}
use Rattle.config_table.specs.Fault.{least, sooner}
use Rattle.config_judge.specs.Judge.{bad_dispatches}
use Rattle.config_judge.proofs.groups.bad_dispatch.Given as goal

abbrev pub invariant-loop-i : goal.invariant-loop-i
invariant-loop-i l = sooner l.found (least (bad_dispatches l.i (drop l.i l.batchers))) ≡ least (bad_dispatches 0 l.batchers)
