use Rattle.std.proofs.Common.{sym}
use Rattle.pipe_journal.proofs.Keeping.{text_there}
use Rattle.pipe_journal.proofs.kept.text_of.Goals as goal

pub returns : goal.returns
returns c = sym (text_there c.args.texts.now c.args.at _ c.get.ensures)
