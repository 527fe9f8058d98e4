use Rattle.std.proofs.Common.{refl, []}
use Rattle.journal_texts.proofs.Lists.{flat_map_step, retext}
use Rattle.journal_texts.specs.Words.{next_text}
use Rattle.journal_texts.specs.Steps.{outcome_text}
use Rattle.journal_texts.proofs.items.put_more_outcomes.Goals as goal

pub loop-outcome-preserved : goal.loop-outcome-preserved
loop-outcome-preserved g c =
    retext g.W.TextSink.puts _ _ _ _ (flat_map_step (next_text outcome_text) [] _ _ _ _ _ c.loop-outcome-test.true c.outcome-item.is refl refl)
    (g.met.W.TextSink.together _ _ _ _ _ c.loop-outcome.invariant c.put_next_outcome.ensures)
