use Rattle.journal_texts.proofs.items.put_next_outcome.Goals as goal

pub returns : goal.returns
returns g c = g.met.W.TextSink.together _ _ _ _ _ c.put.ensures c.put_outcome.ensures
