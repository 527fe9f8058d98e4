use Rattle.std.proofs.Common.{take}
use Rattle.pipe_journal.specs.Items.{records_seen}
use Rattle.journal_texts.specs.Words.{list_text, bytes_text}
use Rattle.journal_texts.proofs.items.put_records.Given as goal

-- the items so far
abbrev pub invariant-loop-at : goal.invariant-loop-at
invariant-loop-at g l = g.W.TextSink.puts l.fn.out l.out (list_text bytes_text (take l.at (records_seen l.records)))
