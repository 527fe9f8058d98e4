use Rattle.std.proofs.Common.{◌≡◌}
use Rattle.toml.specs.View.{members_view}
use Rattle.config_table.specs.Fault.{least, sooner}
use Rattle.config_table.specs.Walk.{unknown_keys}
use Rattle.config_table.proofs.walk.unknown_key.Given as goal

abbrev pub invariant-members : goal.invariant-members
invariant-members l =
    (goal.iterator-members).can_next l.key-iterator × (goal.iterator-members).is_finite l.key-iterator
    × (sooner l.found (least (unknown_keys l.version l.path l.rows (members_view l.key-iterator))) ≡ least (unknown_keys l.version l.path l.rows (members_view l.table.entries)))
