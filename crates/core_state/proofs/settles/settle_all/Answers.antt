use Rattle.std.proofs.Common.{ℕ, suc, ◌+◌, ◌-◌, ◌<◌, length, ◌∙◌, arith, ap, get_or, drop}
use Rattle.std.specs.Prelude.{option_map, slice_get}
use Rattle.std.proofs.lemmas.List.{length-set}
use Rattle.std.proofs.lemmas.Option.{slice_get-get_or}
use Rattle.core_state.specs.Settles.{end_at, ended_from}
use Rattle.core_state.proofs.Settling.{settled_step}
use Rattle.core_state.proofs.settles.settle_all.Goals as goal

pub loop-k-preserved : goal.loop-k-preserved
loop-k-preserved c =
    let l = c.loop-k in
    let n : ℕ = get_or c.args.numbers.now l.k 0 in
    let numbered = c.requires.within l.k 0 (omega arith) in
    let within : n - 1 < length l.places.items = omega (arith, l.invariant.len, numbered.0, numbered.1) in
    let q = c.end_of.result in
    record {
      placed = λ i. ap (λ ps. option_map (ended_from (end_at c.args.settled.now) (l.k + 1) (drop (l.k + 1) c.args.numbers.now) (suc i)) (slice_get ps i)) c.write.ensures.items
          ∙ (settled_step l.places.items (end_at c.args.settled.now) c.args.numbers.now l.k 0 q (get_or l.places.items (n - 1) q) (omega arith) c.requires.apart c.end_of.ensures numbered.0 within (slice_get-get_or l.places.items (n - 1) q within) i ∙ l.invariant.placed i);
      len = ap length c.write.ensures.items ∙ (length-set l.places.items (n - 1) q ∙ l.invariant.len);
      capacity = c.write.ensures.capacity ∙ l.invariant.capacity;
    }
