use Rattle.std.proofs.Common.{◌≡◌}
use Rattle.toml.specs.View.{members_view}
use Rattle.pipe_config.specs.Flat.{are_leaves}
use Rattle.pipe_config.proofs.flat.are_leaves.Given as goal

abbrev pub invariant-members : goal.invariant-members
invariant-members l =
    (goal.iterator-members).can_next l._key-iterator × (goal.iterator-members).is_finite l._key-iterator
    × (are_leaves (members_view l._key-iterator) ≡ are_leaves (members_view l.table.entries))
