use Rattle.std.proofs.Common.{◌∙◌, arith}
use Rattle.message_ack.specs.Ends.{sent_in}
use Rattle.core_tables.proofs.Tables.{no_unit}
use Rattle.core_sends.proofs.Begun.{forget_step}
use Rattle.core_sends.proofs.batches.forget_all.Goals as goal

pub loop-sent-preserved : goal.loop-sent-preserved
loop-sent-preserved c =
    let l = c.loop-sent in
    λ b. forget_step c.args.units.now l.sent-index no_unit b (sent_in l.legs b) (sent_in c.forget.new.self b) (omega arith) (c.forget.ensures b) ∙ l.invariant b
