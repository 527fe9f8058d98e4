use Rattle.std.proofs.Common.{◌≡◌, ◌<◌, ℕ, length, Some, vec_capacity}
use Rattle.std.specs.Prelude.{slice_get}
use Rattle.box_stock.specs.Homes.{post_for}
use Rattle.box_stock.specs.Lends.{kinds_of}
use Rattle.box_stock.proofs.homes.homes_of.Given as goal

abbrev pub invariant-loop-at : goal.invariant-loop-at
invariant-loop-at g l = record {
  len : length l.homes.items ≡ l.at;
  room : vec_capacity l.homes ≡ length l.stock;
  each : (k : ℕ) → k < l.at → slice_get l.homes.items k ≡ Some (post_for l.topology (kinds_of g.C.Boxed.seen l.stock) k);
}
