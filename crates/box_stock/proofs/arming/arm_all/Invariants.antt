use Rattle.std.proofs.Common.{◌≡◌, ◌<◌, ◌≤◌, ℕ, length}
use Rattle.std.specs.Prelude.{slice_get}
use Rattle.stage_bodies.specs.Jobs.{Both}
use Rattle.box_stock.specs.Homes.{joined}
use Rattle.box_stock.specs.Lends.{IsArmedFor, box_at}
use Rattle.box_stock.proofs.arming.arm_all.Given as goal

abbrev pub invariant-loop-at : goal.invariant-loop-at
invariant-loop-at g l = record {
  len : length l.stock.items ≡ length l.fn.stock.items;
  armed : (k : ℕ) → k < l.at → Both (IsArmedFor l.topology (joined (slice_get l.homes k))) (box_at g.C.Boxed.seen l.fn.stock.items k) (box_at g.C.Boxed.seen l.stock.items k);
  rest : (k : ℕ) → l.at ≤ k → box_at g.C.Boxed.seen l.stock.items k ≡ box_at g.C.Boxed.seen l.fn.stock.items k;
}
