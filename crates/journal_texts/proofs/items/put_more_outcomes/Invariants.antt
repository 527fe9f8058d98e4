use Rattle.std.proofs.Common.{take}
use Rattle.journal_texts.specs.Words.{more_text}
use Rattle.journal_texts.specs.Steps.{outcome_text}
use Rattle.journal_texts.proofs.items.put_more_outcomes.Given as goal

-- the items so far
abbrev pub invariant-loop-outcome : goal.invariant-loop-outcome
invariant-loop-outcome g l = g.W.TextSink.puts l.fn.out l.out (more_text outcome_text (take l.outcome-index l.outcomes))
