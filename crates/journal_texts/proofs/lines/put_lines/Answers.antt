use Rattle.std.proofs.Common.{ap, reverse, refl, arith, []}
use Rattle.std.specs.List.{flat_map}
use Rattle.pipe_journal.specs.Views.{step_seen}
use Rattle.journal_texts.specs.Steps.{step_line}
use Rattle.pipe_journal.proofs.Walks.{flat_map_at, whole}
use Rattle.journal_texts.proofs.Lists.{retext}
use Rattle.journal_texts.proofs.lines.put_lines.Goals as goal

pub loop-at-preserved : goal.loop-at-preserved
loop-at-preserved g c =
    retext g.W.TextSink.puts _ _ _ _ (flat_map_at step_line [] (reverse c.args.journal.now.steps) c.loop-at.at (step_seen c.view.result) _ _ c.view.ensures refl refl)
    (g.met.W.TextSink.together _ _ _ _ _ c.loop-at.invariant c.put_line.ensures)

pub returns : goal.returns
returns g c = retext g.W.TextSink.puts _ _ _ _ (ap (λ steps. flat_map step_line steps) (whole c.loop-at.at c.args.journal.now.steps (omega arith))) c.loop-at.invariant
