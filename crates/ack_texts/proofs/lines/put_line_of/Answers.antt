use Rattle.std.proofs.Common.{◌∙◌, sym, true, false}
use Rattle.journal_texts.proofs.Lists.{retext}
use Rattle.ack_texts.specs.Logs.{numbers_by}
use Rattle.ack_texts.proofs.Entries.{line_none, line_there}
use Rattle.ack_texts.proofs.lines.put_line_of.Goals as goal

pub returns-then-is_any : goal.returns-then-is_any
returns-then-is_any g c = λ successful failed won lost.
    let spec = c.args.spec.now in
    retext g.W.TextSink.puts _ _ _ _
    (line_there spec.name (numbers_by c.args.rows.now spec.no true) (numbers_by c.args.rows.now spec.no false) successful failed c.least-won.result c.least-lost.result c.least-won.ensures c.least-lost.ensures won lost
    (sym c.is_any.ensures ∙ c.if-is_any.true)) (c.put_line.ensures successful failed won lost)

pub returns-else-is_any : goal.returns-else-is_any
returns-else-is_any g c = λ successful failed won lost.
    let spec = c.args.spec.now in
    retext g.W.TextSink.puts _ _ _ _
    (line_none spec.name (numbers_by c.args.rows.now spec.no true) (numbers_by c.args.rows.now spec.no false) successful failed c.least-won.result c.least-lost.result c.least-won.ensures c.least-lost.ensures won lost
    (sym c.is_any.ensures ∙ c.if-is_any.false)) (g.met.W.TextSink.nothing _)
