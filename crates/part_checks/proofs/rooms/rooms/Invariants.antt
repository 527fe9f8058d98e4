use Rattle.std.proofs.Common.{◌<◌}
use Rattle.std.specs.List.{All}
use Rattle.pipe_types.specs.Rooms.{AreAscending, PartsDiffer}
use Rattle.part_checks.proofs.rooms.rooms.Given as goal

abbrev pub invariant-loop-place : goal.invariant-loop-place
invariant-loop-place l = record {
  ascending : AreAscending l.rooms.items;
  parts_differ : PartsDiffer l.rooms.items;
  below : All (λ u. u.sub.consumer.0 < l.place) l.rooms.items;
  parts_below : All (λ u. u.part < l.place) l.rooms.items;
}
