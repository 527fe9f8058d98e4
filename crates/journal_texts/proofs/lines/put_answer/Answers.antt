use Rattle.journal_texts.proofs.lines.put_answer.Goals as goal

pub returns-in-Records : goal.returns-in-Records
returns-in-Records g c = rw c.in-Records.is (g.met.W.TextSink.together _ _ _ _ _ c.put.ensures c.put_records.ensures)

pub returns-in-Source : goal.returns-in-Source
returns-in-Source g c = rw c.in-Source.is (g.met.W.TextSink.together _ _ _ _ _ c.put-in-Source.ensures (rw c.how_word.ensures at c.put-in-Source-2.ensures))
