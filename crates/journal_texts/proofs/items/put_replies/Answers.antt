use Rattle.std.proofs.Common.{arith, refl, []}
use Rattle.pipe_journal.specs.Items.{replies_seen}
use Rattle.journal_texts.specs.Steps.{reply_text}
use Rattle.journal_texts.proofs.Lists.{list_step, list_whole, retext}
use Rattle.journal_texts.proofs.items.put_replies.Goals as goal

pub loop-at-preserved : goal.loop-at-preserved
loop-at-preserved g c =
    retext g.W.TextSink.puts _ _ _ _ (list_step reply_text [] (replies_seen c.args.replies) c.loop-at.at _ _ _ c.item.ensures refl refl) (g.met.W.TextSink.together _ _ _ _ _ c.loop-at.invariant c.put_one_reply.ensures)

pub returns : goal.returns
returns g c = retext g.W.TextSink.puts _ _ _ _ (list_whole reply_text [] (replies_seen c.args.replies) c.loop-at.at _ (omega arith) refl) c.loop-at.invariant
