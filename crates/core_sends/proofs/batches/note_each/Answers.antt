use Rattle.std.proofs.Common.{◌≡◌, ◌-◌, ◌++◌, ◌∷◌, [], List, length, ap, ◌∙◌, arith, refl, get_or, Some}
use Rattle.std.specs.Prelude.{slice_get}
use Rattle.std.proofs.lemmas.List.{append_assoc, length-set}
use Rattle.std.proofs.lemmas.Option.{slice_get_read}
use Rattle.pipe_types.specs.declared.numbers.SubNo.{SubNo}
use Rattle.pipe_types.specs.declared.room.Sent.{Sent}
use Rattle.core_tables.specs.declared.rows.BatchRow.{BatchRow}
use Rattle.core_tables.proofs.Tables.{no_unit}
use Rattle.core_sends.proofs.Begun.{subs_step, subs_set_other, closed_set, other_row}
use Rattle.core_sends.proofs.batches.note_each.Goals as goal

pub loop-sent-preserved : goal.loop-sent-preserved
loop-sent-preserved c =
    let l = c.loop-sent in
    let units = c.args.units.now in
    let rows = l.batches.items in
    let d : Sent = get_or units l.sent-index no_unit in
    let number = c.requires.within l.sent-index no_unit (omega arith) in
    let least = number.least in
    let most = number.most in
    let row : BatchRow = c.index_mut-row.result.now in
    let new : BatchRow = record row { subs = c.push.new.self } in
    let at : slice_get rows (d.unit - 1) ≡ Some row = slice_get_read rows (length rows) (d.unit - 1) row refl (omega (arith, least, most, l.invariant.len)) c.index_mut-row.ensures.value in
    let items : new.subs.items ≡ row.subs.items ++ d.sub ∷ [] = c.in_ok-push.ensures.items in
    record {
      noted = λ i. subs_step (λ (us old : List SubNo). old ++ us) rows units l.sent-index no_unit row new i (omega arith) least at
          (λ us. ap (λ vs. vs ++ us) items ∙ append_assoc row.subs.items (d.sub ∷ []) us) ∙ l.invariant.noted i;
      others = λ i none_of. subs_set_other rows (d.unit - 1) new i (other_row units l.sent-index no_unit i (omega arith) least none_of) ∙ l.invariant.others i none_of;
      closed = λ i. closed_set rows (d.unit - 1) row new i at refl ∙ l.invariant.closed i;
      len = length-set rows (d.unit - 1) new ∙ l.invariant.len;
    }
