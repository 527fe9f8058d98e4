use Rattle.std.proofs.Common.{◌++◌}
use Rattle.std.specs.Prelude.{codes, decimal}
use Rattle.journal_texts.specs.Words.{bytes_text}
use Rattle.journal_texts.specs.Steps.{flag_text}
use Rattle.journal_texts.proofs.Lists.{retext, two_tags}
use Rattle.journal_texts.proofs.items.put_pass.Goals as goal

pub returns : goal.returns
returns g c =
    let m = c.args.message in
    retext g.W.TextSink.puts _ _ _ _ (two_tags (codes "p:" ++ decimal m.batcher ++ codes ":" ++ flag_text m.flush) (codes ":") (bytes_text m.key.now) (codes ":") (bytes_text m.payload.now))
    (g.met.W.TextSink.together _ _ _ _ _ (g.met.W.TextSink.together _ _ _ _ _ (g.met.W.TextSink.together _ _ _ _ _ (g.met.W.TextSink.together _ _ _ _ _ (g.met.W.TextSink.together _ _ _ _ _ c.put.ensures c.put_number.ensures) c.put-2.ensures) (rw c.flag.ensures at c.put-3.ensures)) c.put_tagged.ensures) c.put_tagged-2.ensures)
