use Rattle.std.proofs.Common.{◌∙◌}
use Rattle.journal_texts.proofs.Lists.{retext}
use Rattle.ack_texts.proofs.lines.put_line.Goals as goal

pub returns : goal.returns
returns g c = λ successful failed won lost.
    let name = retext g.W.TextSink.puts _ _ _ _ (c.as_bytes.ensures.value ∙ c.as_str.ensures) c.put-2.ensures in
    g.met.W.TextSink.together _ _ _ _ _
    (g.met.W.TextSink.together _ _ _ _ _
    (g.met.W.TextSink.together _ _ _ _ _
    (g.met.W.TextSink.together _ _ _ _ _ (g.met.W.TextSink.together _ _ _ _ _ (g.met.W.TextSink.together _ _ _ _ _ c.put.ensures name) c.put-3.ensures) (c.put_side.ensures successful won))
    c.put-4.ensures) (c.put_side-2.ensures failed lost)) c.put-5.ensures
