use Rattle.std.proofs.Common.{◌≡◌, ◌≤◌, ◌*◌, ◌^◌}
use Rattle.stage_subs.specs.Subs.{rows_of, room_to}
use Rattle.stage_subs.proofs.room_to.Given as goal

abbrev pub invariant-loop-consumer : goal.invariant-loop-consumer
invariant-loop-consumer l = record {
  so_far : l.room ≡ room_to (rows_of l.rows) l.producer l.consumer;
  small : l.room ≤ l.consumer * 2 ^ 32;
}
