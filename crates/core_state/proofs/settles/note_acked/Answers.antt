use Rattle.std.proofs.Common.{ℕ, suc, ◌+◌, ◌-◌, ◌≤◌, length, refl, ◌∙◌, arith, get_or}
use Rattle.core_laws.proofs.Acked.{noted_step, noted_room}
use Rattle.core_state.specs.Settles.{noted}
use Rattle.core_state.proofs.settles.note_acked.Goals as goal

pub loop-no-preserved : goal.loop-no-preserved
loop-no-preserved c =
    let l = c.loop-no in
    let p = c.note_one in
    let f = noted c.args.places.now.items c.args.producers.now c.args.at in
    let left : ℕ = length c.args.numbers.now - (l.no-index + 1) in
    let fits : length l.journal.acked.rows + suc left ≤ l.journal.acked.room = omega (arith, l.invariant.room) in
    let more = noted_room f l.journal.acked.rows p.new.journal.acked.rows (get_or c.args.numbers.now l.no-index 0) left l.journal.acked.room p.ensures.noted fits in
    record {
      noted = noted_step f l.journal.acked.rows p.new.journal.acked.rows c.args.numbers.now l.no-index 0 (omega arith) p.ensures.noted ∙ l.invariant.noted;
      room = omega (arith, more, p.ensures.same_room);
      same_room = p.ensures.same_room ∙ l.invariant.same_room;
      same_steps = p.ensures.same_steps ∙ l.invariant.same_steps;
      same_spare = p.ensures.same_spare ∙ l.invariant.same_spare;
    }
