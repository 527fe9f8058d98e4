use Rattle.std.proofs.Common.{◌≡◌, ◌≢◌, ◌<◌, ◌≤◌, ◌-◌, ◌+◌, ℕ, suc, length, take, Some, vec_capacity}
use Rattle.std.specs.Prelude.{slice_get}
use Rattle.pipe_types.specs.declared.numbers.Post.{Post}
use Rattle.stage_bodies.specs.Seen.{body_at}
use Rattle.stage_bodies.specs.Jobs.{Both}
use Rattle.stage_bodies.specs.Posts.{place_at}
use Rattle.box_stock.specs.Homes.{joined}
use Rattle.box_stock.specs.Lends.{IsLent, box_at}
use Rattle.box_stock.proofs.handing.lend_all.Given as goal

abbrev pub invariant-loop-done : goal.invariant-loop-done
invariant-loop-done g l =
    let look = g.B.Works.look in
    let seen = g.C.Boxed.seen in
    record {
      len : length l.bodies.items ≡ length l.fn.bodies.items;
      left : l.stock.items ≡ take (length l.fn.stock.items - l.done) l.fn.stock.items;
      number : length l.stock.items + l.done ≡ length l.fn.stock.items;
      capacity : vec_capacity l.stock ≡ vec_capacity l.fn.stock;
      slips : length l.slips.items ≡ l.done;
      room : length l.fn.stock.items ≤ vec_capacity l.slips;
      lent : (k : ℕ) → k < length l.fn.stock.items → length l.stock.items ≤ k
          → Both (IsLent seen (joined (slice_get l.homes k)) (body_at look l.bodies.items)) (box_at seen l.fn.stock.items k) (slice_get l.slips.items (length l.fn.stock.items - suc k));
      others : (at : ℕ) → ((k : ℕ) (p : Post) → joined (slice_get l.homes k) ≡ Some p → place_at p ≢ at)
          → body_at look l.bodies.items at ≡ body_at look l.fn.bodies.items at;
    }
