use Rattle.std.proofs.Common.{sym, ◌∙◌}
use Rattle.pipe_journal.proofs.journal.Journal.reply_at.Goals as goal

pub returns : goal.returns
returns c = c.get.ensures ∙ sym (c.replies.ensures c.args.item)
