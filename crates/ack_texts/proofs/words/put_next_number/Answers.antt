use Rattle.ack_texts.proofs.words.put_next_number.Goals as goal

pub returns : goal.returns
returns g c = g.met.W.TextSink.together _ _ _ _ _ c.put.ensures c.put_number.ensures
