use Rattle.std.proofs.Common.{ap, reverse, ◌∙◌, arith}
use Rattle.std.specs.List.{list_any}
use Rattle.pipe_journal.specs.Views.{step_seen}
use Rattle.pipe_journal.proofs.Walks.{whole}
use Rattle.pipe_model.specs.Legal.{is_halt}
use Rattle.journal_texts.specs.Report.{is_source_fault}
use Rattle.journal_texts.proofs.FoundSteps.{any_at, any_happened}
use Rattle.journal_texts.proofs.status.bad_ends.Goals as goal

pub loop-at-preserved : goal.loop-at-preserved
loop-at-preserved c =
    let steps = reverse c.args.journal.now.steps in
    let step = step_seen c.view-step.result in (
      any_at is_source_fault steps c.loop-at.at step _ _ c.view-step.ensures c.loop-at.invariant.0 c.fails_by-source_fault.ensures,
      any_at is_halt steps c.loop-at.at step _ _ c.view-step.ensures c.loop-at.invariant.1 c.halts_by-halted.ensures,
    )

pub returns : goal.returns
returns c =
    let steps = c.args.journal.now.steps in
    let all = whole c.loop-at.at steps (omega arith) in
    record {
      source_fault = c.loop-at.invariant.0 ∙ (ap (list_any is_source_fault) all ∙ any_happened is_source_fault steps);
      halted = c.loop-at.invariant.1 ∙ (ap (list_any is_halt) all ∙ any_happened is_halt steps);
    }
