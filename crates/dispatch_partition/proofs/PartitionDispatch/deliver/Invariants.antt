use Rattle.std.proofs.Common.{◌≡◌, ℕ, take}
use Rattle.std.specs.Prelude.{find}
use Rattle.pipe_types.specs.Dispatchers.{ByPartition}
use Rattle.pipe_types.specs.Dispatchers.{sends_by_place}
use Rattle.dispatch_partition.proofs.Units.{left_after, of_part}
use Rattle.dispatch_partition.proofs.PartitionDispatch.deliver.Given as goal

abbrev pub invariant-loop-place : goal.invariant-loop-place
invariant-loop-place l = record {
  left : (q : ℕ) → find (of_part q) l.left.items ≡ left_after l.room (take l.place l.parts) q;
  sent : l.sent.items ≡ sends_by_place ByPartition l.room (take l.place l.parts);
}
