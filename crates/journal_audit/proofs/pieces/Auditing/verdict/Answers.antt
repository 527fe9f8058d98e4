use Rattle.std.proofs.Common.{sym, subst}
use Rattle.journal_audit.specs.AuditSeen.{AuditSeen}
use Rattle.journal_audit.specs.Pieces.{Audits}
use Rattle.journal_audit.proofs.Piecewise.{whole_said, whole_means}
use Rattle.journal_audit.proofs.pieces.Auditing.verdict.Goals as goal

pub returns-clause-verdict : goal.returns-clause-verdict
returns-clause-verdict c topology text audits =
    let inside = c.self.inside in
    let seen : AuditSeen = record { topology = inside.run.topology; steps = inside.run.steps; progress = inside.progress; begun = inside.begun.items; read = inside.read } in
    whole_said topology text seen c.verdict_here.result c.self.invariant.0 c.verdict_here.ensures (subst (Audits topology text) (sym c.self.view_is) audits)

pub returns-clause-said : goal.returns-clause-said
returns-clause-said c topology text sound audits = whole_means topology text c.verdict_here.result sound (returns-clause-verdict c topology text audits)
