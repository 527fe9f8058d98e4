use Rattle.std.proofs.Common.{◌≡◌}
use Rattle.toml.specs.View.{members_view}
use Rattle.config_table.specs.Fault.{least, sooner}
use Rattle.config_table.specs.Walk.{faults_beside}
use Rattle.config_table.proofs.walk.members_fault.Given as goal

abbrev pub invariant-members : goal.invariant-members
invariant-members l =
    (goal.iterator-members).can_next l.key-iterator × (goal.iterator-members).is_finite l.key-iterator
    × (sooner l.found (least (faults_beside l.version l.producers (members_view l.key-iterator))) ≡ least (faults_beside l.version l.producers (members_view l.table.entries)))
