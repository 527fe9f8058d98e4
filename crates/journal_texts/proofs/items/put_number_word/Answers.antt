use Rattle.journal_texts.proofs.items.put_number_word.Goals as goal

pub returns : goal.returns
returns g c = g.met.W.TextSink.together _ _ _ _ _ c.put.ensures c.put_number.ensures
