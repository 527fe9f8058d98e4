use Rattle.std.proofs.Common.{◌≡◌, drop}
use Rattle.toml.specs.View.{items_view}
use Rattle.config_table.specs.Fault.{least, sooner}
use Rattle.config_table.specs.Values.{item_faults}
use Rattle.config_table.proofs.value.item_fault.Given as goal

abbrev pub invariant-loop-i : goal.invariant-loop-i
invariant-loop-i l = sooner l.found (least (item_faults l.path l.shape l.i (items_view (drop l.i l.items)))) ≡ least (item_faults l.path l.shape 0 (items_view l.items))
