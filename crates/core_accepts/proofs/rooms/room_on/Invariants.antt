use Rattle.std.proofs.Common.{◌≡◌, ◌≤◌, ◌*◌, ◌^◌, take}
use Rattle.std.specs.Prelude.{sum_by}
use Rattle.core_accepts.specs.Rooms.{open_between}
use Rattle.core_accepts.proofs.rooms.room_on.Given as goal

abbrev pub invariant-loop-consumer : goal.invariant-loop-consumer
invariant-loop-consumer l = record {
  so_far : l.room ≡ sum_by (open_between l.subs l.producer) (take l.consumer-index l.stages);
  small : l.room ≤ l.consumer-index * 2 ^ 32;
}
