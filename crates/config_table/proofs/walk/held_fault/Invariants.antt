use Rattle.std.proofs.Common.{◌≡◌, drop, flat_map}
use Rattle.toml.specs.View.{members_view}
use Rattle.config_table.specs.Fault.{least, sooner}
use Rattle.config_table.specs.Walk.{row_faults}
use Rattle.config_table.proofs.walk.held_fault.Given as goal

abbrev pub invariant-loop-row : goal.invariant-loop-row
invariant-loop-row l =
    sooner l.found (least (flat_map (row_faults l.version l.path (members_view l.table.entries)) (drop l.row-index l.rows))) ≡ least (flat_map (row_faults l.version l.path (members_view l.table.entries)) l.rows)
