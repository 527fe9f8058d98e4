use Rattle.std.proofs.Common.{◌≡◌, ◌++◌, ℕ, List, take, drop}
use Rattle.config_table.specs.Fault.{least, sooner}
use Rattle.config_judge.specs.Judge.{duplicate_names, is_in}
use Rattle.config_judge.specs.Stood.{stands}
use Rattle.config_judge.proofs.names.duplicate_name.Given as goal

abbrev pub invariant-loop-i : goal.invariant-loop-i
invariant-loop-i l = record {
  known : (name : List ℕ) → stands l.stood name ≡ is_in name (l.before ++ take l.i l.names);
  faults : sooner l.found (least (duplicate_names l.path (l.before ++ take l.i l.names) l.i (drop l.i l.names))) ≡ least (duplicate_names l.path l.before 0 l.names);
}
