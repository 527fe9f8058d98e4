use Rattle.std.proofs.Common.{take}
use Rattle.std.specs.List.{flat_map}
use Rattle.journal_texts.specs.Words.{byte_text}
use Rattle.journal_texts.proofs.items.put_digits.Given as goal

-- the texts so far
abbrev pub invariant-loop-byte : goal.invariant-loop-byte
invariant-loop-byte g l = g.W.TextSink.puts l.fn.out l.out (flat_map byte_text (take l.byte-index l.bytes))
