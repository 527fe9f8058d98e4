use Rattle.std.proofs.Common.{subst, reverse, arith}
use Rattle.pipe_journal.specs.Views.{step_seen}
use Rattle.pipe_journal.proofs.Walks.{whole}
use Rattle.journal_texts.specs.Report.{is_restart, is_refuse}
use Rattle.journal_texts.specs.Findings.{AreFindings}
use Rattle.journal_texts.proofs.FoundSteps.{findings_more, within_more}
use Rattle.journal_texts.proofs.steps.found_in.Goals as goal

pub loop-at-preserved : goal.loop-at-preserved
loop-at-preserved c =
    let before = c.loop-at.invariant in
    let adds = c.in_ok-note.ensures in
    let step = step_seen c.view.result in (
      findings_more (reverse c.args.journal.now.steps) c.loop-at.at step _ _ c.view.ensures before.0 adds,
      (within_more (is_restart step) _ _ _ before.1.0 adds.restarts, within_more (is_refuse step) _ _ _ before.1.1 adds.refusals),
    )

pub returns : goal.returns
returns c = subst (λ steps. AreFindings steps c.loop-at.found) (whole c.loop-at.at c.args.journal.now.steps (omega arith)) c.loop-at.invariant.0
