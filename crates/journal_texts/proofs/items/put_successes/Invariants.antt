use Rattle.std.specs.Prelude.{replicate}
use Rattle.pipe_types.specs.declared.message.Outcome.TheVariants.{Successful}
use Rattle.journal_texts.specs.Words.{list_text}
use Rattle.journal_texts.specs.Steps.{outcome_text}
use Rattle.journal_texts.proofs.items.put_successes.Given as goal

-- the items so far
abbrev pub invariant-loop-at : goal.invariant-loop-at
invariant-loop-at g l = g.W.TextSink.puts l.fn.out l.out (list_text outcome_text (replicate l.at Successful))
