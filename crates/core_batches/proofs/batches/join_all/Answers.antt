use Rattle.std.proofs.Common.{ℕ, suc, ◌+◌, ◌-◌, ◌<◌, length, ◌∙◌, arith, ap, get_or, drop}
use Rattle.std.specs.Prelude.{option_map, slice_get}
use Rattle.std.proofs.lemmas.List.{length-set}
use Rattle.pipe_model.specs.Flow.{put_in_batch}
use Rattle.core_batches.proofs.Joining.{joined_step}
use Rattle.core_batches.proofs.batches.join_all.Goals as goal

pub loop-no-preserved : goal.loop-no-preserved
loop-no-preserved c =
    let l = c.loop-no in
    let n : ℕ = get_or c.args.numbers.now l.no-index 0 in
    let numbered = c.requires.within l.no-index 0 (omega arith) in
    let within : n - 1 < length l.places.items = omega (arith, l.invariant.len, numbered) in
    record {
      placed = λ i. ap (λ ps. option_map (put_in_batch (drop (l.no-index + 1) c.args.numbers.now) c.args.stage c.args.batch.0 (suc i)) (slice_get ps i)) c.write.ensures.items
          ∙ (joined_step l.places.items c.args.numbers.now l.no-index 0 c.args.stage c.args.batch.0 c.read.result c.joined-place.result (omega arith) numbered.0 within c.read.ensures c.joined-place.ensures i ∙ l.invariant.placed i);
      len = ap length c.write.ensures.items ∙ (length-set l.places.items (n - 1) c.joined-place.result ∙ l.invariant.len);
      capacity = c.write.ensures.capacity ∙ l.invariant.capacity;
    }
