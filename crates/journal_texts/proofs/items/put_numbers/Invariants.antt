use Rattle.std.proofs.Common.{take}
use Rattle.std.specs.List.{flat_map}
use Rattle.journal_texts.specs.Words.{number_word}
use Rattle.journal_texts.proofs.items.put_numbers.Given as goal

-- the texts so far
abbrev pub invariant-loop-n : goal.invariant-loop-n
invariant-loop-n g l = g.W.TextSink.puts l.fn.out l.out (flat_map number_word (take l.n-index l.numbers))
