use Rattle.std.proofs.Common.{◌≡◌, suc, ◌+◌, ◌-◌, ◌<◌, ◌≤◌, length, ◌∙◌, arith, ap, map, Some, ℕ}
use Rattle.std.specs.Prelude.{option_map, slice_get}
use Rattle.std.proofs.lemmas.List.{length-set}
use Rattle.core_sends.specs.Losing.{lost_over_size, between}
use Rattle.core_sends.proofs.Over.{lost_step}
use Rattle.core_sends.proofs.losing.lose_all.Goals as goal

pub loop-k-preserved : goal.loop-k-preserved
loop-k-preserved c =
    let l = c.loop-k in
    let u : ℕ × ℕ = c.index.result.now in
    let in_range = c.requires.within l.k u (omega (arith, c.requires.end)) in
    let same = ap (λ (v : ℕ × ℕ). v.1) c.index.ensures in
    let least : 1 ≤ u.1 = omega (arith, in_range.0, same) in
    let within : u.1 - 1 < length l.places.items = omega (arith, in_range.0, in_range.1, same, l.invariant.len) in
    let was : slice_get l.places.items (u.1 - 1) ≡ Some c.read.result = c.read.ensures in
    record {
      placed = λ i. ap (λ ps. option_map (lost_over_size (map {A = ℕ × ℕ} {B = ℕ} (λ unit. unit.1) (between (l.k + 1) c.args.to c.args.queue.now.items)) c.args.stage (suc i)) (slice_get ps i)) c.write.ensures.items
          ∙ (lost_step c.args.stage l.places.items c.args.queue.now.items l.k c.args.to u c.read.result c.lost-place.result (omega arith) c.requires.end c.index.ensures least within was c.lost-place.ensures i ∙ l.invariant.placed i);
      len = ap length c.write.ensures.items ∙ (length-set l.places.items (u.1 - 1) c.lost-place.result ∙ l.invariant.len);
      capacity = c.write.ensures.capacity ∙ l.invariant.capacity;
    }
