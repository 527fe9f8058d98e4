use Rattle.std.proofs.Common.{ℕ, suc, ◌+◌, ◌-◌, ◌<◌, length, ◌∙◌, arith, ap, get_or, drop}
use Rattle.std.specs.Prelude.{option_map, slice_get}
use Rattle.std.proofs.lemmas.List.{length-set}
use Rattle.std.proofs.lemmas.Option.{slice_get-get_or}
use Rattle.pipe_types.specs.declared.message.Place.TheVariants.{Acked}
use Rattle.pipe_types.specs.declared.message.Outcome.TheVariants.{Successful}
use Rattle.core_sends.specs.Batches.{succeeded}
use Rattle.core_sends.proofs.Lone.{succeeded_step}
use Rattle.core_sends.proofs.alone.succeed_all.Goals as goal

pub loop-no-preserved : goal.loop-no-preserved
loop-no-preserved c =
    let l = c.loop-no in
    let n : ℕ = get_or c.args.numbers.now l.no-index 0 in
    let numbered = c.requires.within l.no-index 0 (omega arith) in
    let within : n - 1 < length l.places.items = omega (arith, l.invariant.len, numbered.0, numbered.1) in
    record {
      placed = λ i. ap (λ ps. option_map (succeeded (drop (l.no-index + 1) c.args.numbers.now) (suc i)) (slice_get ps i)) c.write.ensures.items
          ∙ (succeeded_step l.places.items c.args.numbers.now l.no-index 0 (get_or l.places.items (n - 1) (Acked Successful)) (omega arith) numbered.0 within (slice_get-get_or l.places.items (n - 1) (Acked Successful) within) i ∙ l.invariant.placed i);
      len = ap length c.write.ensures.items ∙ (length-set l.places.items (n - 1) (Acked Successful) ∙ l.invariant.len);
      capacity = c.write.ensures.capacity ∙ l.invariant.capacity;
    }
