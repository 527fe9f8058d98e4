use Rattle.std.proofs.Common.{◌≡◌, ◌<◌, ◌≤◌, ◌-◌, ◌+◌, ℕ, suc, length, take, Some, vec_capacity}
use Rattle.std.specs.Prelude.{slice_get, option_map}
use Rattle.stage_bodies.specs.Seen.{body_at}
use Rattle.box_stock.specs.Lends.{back_for, box_at, without_box}
use Rattle.box_stock.specs.declared.handing.Slip.TheVariants.{Lent}
use Rattle.box_stock.proofs.returning.take_back.Given as goal

abbrev pub invariant-loop-done : goal.invariant-loop-done
invariant-loop-done g l =
    let look = g.B.Works.look in
    let seen = g.C.Boxed.seen in
    let all = l.fn.lent.slips.items in
    record {
      left : l.slips.items ≡ take (length all - l.done) all;
      number : length l.slips.items + l.done ≡ length all;
      len : length l.boxes.items ≡ l.done;
      room : length all ≤ vec_capacity l.boxes;
      boxes : (k : ℕ) → k < l.done → box_at seen l.boxes.items k ≡ back_for seen (body_at look l.fn.bodies.items) (slice_get all (length all - suc k));
      held : (k at : ℕ) → k < length l.slips.items → slice_get all k ≡ Some (Lent at) → body_at look l.bodies.items at ≡ body_at look l.fn.bodies.items at;
      rest : (s : ℕ) → option_map without_box (body_at look l.bodies.items s) ≡ option_map without_box (body_at look l.fn.bodies.items s);
    }
