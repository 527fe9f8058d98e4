use Rattle.std.proofs.Common.{◌≡◌, ◌-◌, length, ap, sym, ◌∙◌, arith, refl, get_or, Some}
use Rattle.std.specs.Prelude.{slice_get, if◌then◌else◌, ◌==◌}
use Rattle.std.proofs.lemmas.Option.{slice_get_read}
use Rattle.pipe_types.specs.declared.room.Sent.{Sent}
use Rattle.message_ack.specs.Ends.{sent_in, with_leg}
use Rattle.core_sends.specs.Batches.{messages_of, messages_in}
use Rattle.core_tables.proofs.Tables.{no_unit}
use Rattle.core_sends.proofs.Begun.{begun_step, other_batch, kept_else}
use Rattle.core_sends.proofs.batches.begin_each.Goals as goal

pub loop-sent-preserved : goal.loop-sent-preserved
loop-sent-preserved c =
    let l = c.loop-sent in
    let rows = c.args.batches.now.items in
    let d : Sent = get_or c.args.units.now l.sent-index no_unit in
    let number = c.requires.within l.sent-index no_unit (omega arith) in
    let least = number.least in
    let most = number.most in
    let at : slice_get rows (d.unit - 1) ≡ Some c.index.result.now = slice_get_read rows (length rows) (d.unit - 1) c.index.result.now refl (omega (arith, least, most)) c.index.ensures in
    let count : c.len-messages.result ≡ messages_of rows d.unit =
    ◌∙◌ {b = length c.index.result.now.numbers.items} (omega (arith, c.len-messages.ensures)) (sym (ap messages_in at)) in
    record {
      begun = λ b. begun_step (messages_of rows) c.args.units.now l.sent-index no_unit b (sent_in l.legs b) (sent_in c.add_leg.new.self b) (omega arith)
          (c.in_ok-add_leg.ensures.added b ∙ ap (λ m. if b == d.unit then Some (with_leg m (sent_in l.legs b)) else sent_in l.legs b) count) ∙ l.invariant.begun b;
      others = λ b none_of. c.in_ok-add_leg.ensures.added b
          ∙ (kept_else b d.unit (Some (with_leg c.len-messages.result (sent_in l.legs b))) (sent_in l.legs b) (other_batch c.args.units.now l.sent-index no_unit b (omega arith) none_of) ∙ l.invariant.others b none_of);
    }
