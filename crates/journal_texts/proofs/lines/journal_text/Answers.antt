use Rattle.journal_texts.proofs.Lists.{kept}
use Rattle.journal_texts.proofs.lines.journal_text.Goals as goal

pub returns : goal.returns
returns c = kept c.into_bytes.result _ _ _ _ _ c.new-out.ensures.1 c.new-out.ensures.0 c.into_bytes.ensures c.put_journal.ensures
