use Rattle.std.proofs.Common.{◌≡◌, ap, refl, arith, ℕ, []}
use Rattle.std.specs.Prelude.{replicate}
use Rattle.pipe_types.specs.declared.message.Outcome.TheVariants.{Successful}
use Rattle.journal_texts.specs.Words.{list_text}
use Rattle.journal_texts.specs.Steps.{outcome_text}
use Rattle.journal_texts.proofs.Lists.{retext, same_step}
use Rattle.journal_texts.proofs.items.put_successes.Goals as goal

pub loop-at-preserved : goal.loop-at-preserved
loop-at-preserved g c = retext g.W.TextSink.puts _ _ _ _ (same_step outcome_text [] c.loop-at.at Successful _ _ refl refl) (g.met.W.TextSink.together _ _ _ _ _ c.loop-at.invariant c.put_success.ensures)

pub returns : goal.returns
returns g c =
    let whole : c.loop-at.at ≡ c.args.count = omega arith in
    retext g.W.TextSink.puts _ _ _ _ (ap (λ (n : ℕ). list_text outcome_text (replicate n Successful)) whole) c.loop-at.invariant
