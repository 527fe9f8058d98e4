use Rattle.std.proofs.Common.{◌≡◌, ◌∙◌, sym, length, reverse}
use Rattle.pipe_journal.proofs.Walks.{length_reversed}
use Rattle.journal_texts.proofs.lines.put_journal.Goals as goal

pub returns : goal.returns
returns g c =
    let e : c.len.result ≡ length (reverse c.args.journal.now.steps) = c.len.ensures ∙ sym (length_reversed c.args.journal.now.steps) in
    g.met.W.TextSink.together _ _ _ _ _ (g.met.W.TextSink.together _ _ _ _ _ (g.met.W.TextSink.together _ _ _ _ _ c.put.ensures c.put_lines.ensures) (rw e at c.put_words.ensures)) c.put-2.ensures
