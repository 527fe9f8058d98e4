use Rattle.std.proofs.Common.{◌≡◌, ◌+◌, ◌++◌, drop}
use Rattle.plain_queues.specs.Flows.{history_of}
use Rattle.plain_places.specs.Rows.{each_from}
use Rattle.plain_places.specs.Moves.{moved_by}
use Rattle.plain_places.specs.Changes.{move_of}
use Rattle.plain_places.proofs.places.all_moved.Given as goal

abbrev pub invariant-loop-i : goal.invariant-loop-i
invariant-loop-i l =
    l.after.items ++ each_from (moved_by (history_of l.flow) (move_of l.moves)) (l.i + 1) (drop l.i l.places) ≡ each_from (moved_by (history_of l.flow) (move_of l.moves)) 1 l.places
