use Rattle.std.proofs.Common.{take}
use Rattle.pipe_journal.specs.Items.{replies_seen}
use Rattle.journal_texts.specs.Words.{list_text}
use Rattle.journal_texts.specs.Steps.{reply_text}
use Rattle.journal_texts.proofs.items.put_replies.Given as goal

-- the items so far
abbrev pub invariant-loop-at : goal.invariant-loop-at
invariant-loop-at g l = g.W.TextSink.puts l.fn.out l.out (list_text reply_text (take l.at (replies_seen l.replies)))
