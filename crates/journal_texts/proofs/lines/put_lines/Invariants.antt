use Rattle.std.proofs.Common.{take, reverse}
use Rattle.std.specs.List.{flat_map}
use Rattle.journal_texts.specs.Steps.{step_line}
use Rattle.journal_texts.proofs.lines.put_lines.Given as goal

-- the lines so far
abbrev pub invariant-loop-at : goal.invariant-loop-at
invariant-loop-at g l = g.W.TextSink.puts l.fn.out l.out (flat_map step_line (take l.at (reverse l.journal.steps)))
