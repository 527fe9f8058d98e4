use Rattle.std.proofs.Common.{sym, ◌∙◌, arith}
use Rattle.std.proofs.lemmas.Slice.Eq.{bytes_eq-Decides}
use Rattle.pipe_journal.proofs.Keeping.{there_text}
use Rattle.pipe_journal.proofs.kept.is_reason_at.Goals as goal

pub returns : goal.returns
returns c = λ same.
    there_text c.args.reasons.now c.args.at c.args.text.now (omega arith)
    (sym c.reason_of.ensures ∙ sym c.as_bytes.ensures.text ∙ (bytes_eq-Decides c.as_bytes.result.now c.args.text.now).0 (sym c.is_same.ensures ∙ same))
