use Rattle.journal_texts.proofs.lines.put_words_and.Goals as goal

pub returns : goal.returns
returns g c = g.met.W.TextSink.together _ _ _ _ _ (g.met.W.TextSink.together _ _ _ _ _ c.put_words.ensures c.put.ensures) c.put-2.ensures
