use Rattle.std.proofs.Common.{sym, ◌∙◌, refl}
use Rattle.journal_audit.proofs.Judging.{read_here, step_found, last_line, worst_line}
use Rattle.journal_audit.proofs.lines.audit_line.Goals as goal

pub returns-in-Step-clause-found : goal.returns-in-Step-clause-found
returns-in-Step-clause-found c =
    let run = c.args.run.now in
    step_found run c.audit_step.new.run.steps c.args.line.now c.in-Step.step c.audit_step.result c.journal.ensures.legal
    (sym c.in-Step.is ∙ read_here run c.journal.result.now.steps c.len-steps.result c.args.line.now c.in_ok-read.read c.in_ok-read.ensures c.len-steps.ensures c.journal.ensures.steps c.journal.ensures.legal)
    c.audit_step.ensures.found

pub returns-in-End-clause-found : goal.returns-in-End-clause-found
returns-in-End-clause-found c =
    let run = c.args.run.now in (
      refl,
      last_line run.topology run.steps c.args.line.now
          (sym c.in-End.is ∙ read_here run c.journal.result.now.steps c.len-steps.result c.args.line.now c.in_ok-read.read c.in_ok-read.ensures c.len-steps.ensures c.journal.ensures.steps c.journal.ensures.legal),
    )

pub returns-in_ok-cause_of-in-Bad-clause-found : goal.returns-in_ok-cause_of-in-Bad-clause-found
returns-in_ok-cause_of-in-Bad-clause-found c =
    let run = c.args.run.now in (
      refl,
      worst_line run.topology run.steps c.args.line.now c.in-Bad.fault c.in_ok-cause_of-in-Bad.field-0
          (sym c.in-Bad.is ∙ read_here run c.journal.result.now.steps c.len-steps.result c.args.line.now c.in_ok-read.read c.in_ok-read.ensures c.len-steps.ensures c.journal.ensures.steps c.journal.ensures.legal)
          c.in_ok-cause_of-in-Bad.ensures,
    )
