use Rattle.journal_texts.proofs.lines.put_drain.Goals as goal

pub returns : goal.returns
returns g c = g.met.W.TextSink.together _ _ _ _ _ c.put.ensures ((rw c.cause_word.ensures at c.put-2.ensures))
