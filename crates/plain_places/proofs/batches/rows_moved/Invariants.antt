use Rattle.std.proofs.Common.{◌≡◌, ◌+◌, ◌++◌, drop, map}
use Rattle.plain_queues.specs.Flows.{history_of}
use Rattle.plain_queues.specs.Views.{batch_of}
use Rattle.plain_places.specs.Rows.{each_from}
use Rattle.plain_places.specs.Moves.{batch_moved}
use Rattle.plain_places.specs.Changes.{row_move_of}
use Rattle.plain_places.proofs.batches.rows_moved.Given as goal

abbrev pub invariant-loop-i : goal.invariant-loop-i
invariant-loop-i l =
    map batch_of l.after.items ++ each_from (batch_moved (history_of l.flow) (row_move_of l.change)) (l.i + 1) (drop l.i (map batch_of l.rows))
    ≡ each_from (batch_moved (history_of l.flow) (row_move_of l.change)) 1 (map batch_of l.rows)
