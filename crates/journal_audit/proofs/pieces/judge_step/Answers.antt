use Rattle.std.proofs.Common.{ap, ◌∙◌, length, ℕ, ◌+◌}
use Rattle.journal_audit.proofs.Piecewise.{bad_lead}
use Rattle.journal_audit.proofs.pieces.judge_step.Goals as goal

pub returns-in-Bad-clause-leads : goal.returns-in-Bad-clause-leads
returns-in-Bad-clause-leads c =
    bad_lead c.args.run.now.topology c.args.run.now.steps c.audit_line.new.run.steps c.args.line.now _ c.in-Bad.cause c.bad.result c.bad.ensures
    (ap (λ (n : ℕ). n + 2) (c.len-number.ensures ∙ ap length c.journal.ensures.steps))
    (rw c.in-Bad.is at c.in_ok-found.ensures.found)
