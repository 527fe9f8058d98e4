use Rattle.std.proofs.Common.{◌≡◌, drop, take, None}
use Rattle.mem_edges.specs.Shelf.{under}
use Rattle.mem_edges.proofs.named.free_place.Given as goal

abbrev pub invariant-loop-at : goal.invariant-loop-at
invariant-loop-at g l = record {
  rest : under l.name (drop l.at l.shelf) ≡ under l.name l.shelf;
  newest : under l.name (take l.at l.shelf) ≡ None;
}
