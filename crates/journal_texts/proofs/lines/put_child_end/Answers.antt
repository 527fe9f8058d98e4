use Rattle.journal_texts.proofs.lines.put_child_end.Goals as goal

pub returns : goal.returns
returns g c = g.met.W.TextSink.together _ _ _ _ _ c.put_head.ensures c.put_reply.ensures
