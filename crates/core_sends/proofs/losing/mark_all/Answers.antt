use Rattle.std.proofs.Common.{rules, ◌≡◌, ◌-◌, ◌<◌, ◌≤◌, length, ◌∙◌, arith, refl, ap, Some, ℕ}
use Rattle.std.specs.Prelude.{slice_get}
use Rattle.std.proofs.lemmas.Option.{slice_get_read}
use Rattle.core_sends.proofs.Over.{mark_step}
use Rattle.core_sends.proofs.losing.mark_all.Goals as goal

pub loop-k-preserved : goal.loop-k-preserved
loop-k-preserved c =
    let l = c.loop-k in
    let u : ℕ × ℕ = c.index.result.now in
    let in_range = c.requires.within l.k u (omega (arith, c.requires.end)) in
    let same = ap (λ (v : ℕ × ℕ). v.1) c.index.ensures in
    let least : 1 ≤ u.1 = omega (arith, in_range.0, same) in
    let within : u.1 - 1 < length l.settled.items = omega (arith, in_range.0, in_range.1, same, l.invariant.len) in
    let was : slice_get l.settled.items (u.1 - 1) ≡ Some c.index_mut.result.now = slice_get_read l.settled.items (length l.settled.items) (u.1 - 1) c.index_mut.result.now refl within c.index_mut.ensures.value in
    record {
      marked = λ i. mark_step c.args.mark l.settled.items c.args.queue.now.items l.k c.args.to u c.index_mut.result.now (omega arith) c.requires.end c.index.ensures least within was i ∙ l.invariant.marked i;
      len = search rules;
      capacity = search rules;
    }
