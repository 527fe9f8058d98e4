use Rattle.std.proofs.Common.{sym, ap, ◌∙◌, Some}
use Rattle.std.proofs.lemmas.Slice.Eq.{bytes_eq-Decides}
use Rattle.pipe_journal.proofs.kept.is_at.Goals as goal

pub returns : goal.returns
returns c = λ yes. c.get.ensures ∙ ap Some ((bytes_eq-Decides c.get.result.now c.args.text.now).0 (sym c.is_same.ensures ∙ yes))
