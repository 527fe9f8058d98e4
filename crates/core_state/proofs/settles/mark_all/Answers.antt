use Rattle.std.proofs.Common.{rules, ℕ, ◌-◌, ◌<◌, length, ◌∙◌, arith, get_or}
use Rattle.std.proofs.lemmas.Option.{slice_get-get_or}
use Rattle.core_state.proofs.Settling.{marked_step}
use Rattle.core_state.proofs.settles.mark_all.Goals as goal

pub loop-no-preserved : goal.loop-no-preserved
loop-no-preserved c =
    let l = c.loop-no in
    let n : ℕ = get_or c.args.numbers.now l.no-index 0 in
    let numbered = c.requires.within l.no-index 0 (omega arith) in
    let within : n - 1 < length l.marks.items = omega (arith, l.invariant.len, numbered.0, numbered.1) in
    record {
      marks = λ i. marked_step l.marks.items c.args.numbers.now l.no-index 0 c.args.mark (get_or l.marks.items (n - 1) 0) (omega arith) numbered.0 within (slice_get-get_or l.marks.items (n - 1) 0 within) i ∙ l.invariant.marks i;
      len = search rules;
      capacity = search rules;
    }
