use Rattle.std.proofs.Common.{◌≡◌, drop}
use Rattle.toml.specs.View.{items_view}
use Rattle.config_table.specs.Fault.{least, sooner}
use Rattle.config_table.specs.Walk.{each_faults}
use Rattle.config_table.proofs.walk.each_fault.Given as goal

abbrev pub invariant-loop-i : goal.invariant-loop-i
invariant-loop-i l = sooner l.found (least (each_faults l.version l.section l.path l.i (items_view (drop l.i l.items)))) ≡ least (each_faults l.version l.section l.path 0 (items_view l.items))
