use Rattle.std.proofs.Common.{sym, subst}
use Rattle.journal_audit.specs.AuditSeen.{AuditSeen}
use Rattle.journal_audit.specs.Pieces.{Audits}
use Rattle.journal_audit.proofs.Piecewise.{more_audits}
use Rattle.journal_audit.proofs.pieces.Auditing.push.Goals as goal

pub returns-clause-audits : goal.returns-clause-audits
returns-clause-audits c topology text audits =
    let inside = c.self.inside in
    let seen : AuditSeen = record { topology = inside.run.topology; steps = inside.run.steps; progress = inside.progress; begun = inside.begun.items; read = inside.read } in
    more_audits topology text c.args.piece.now seen c.take_piece.new.run.topology c.take_piece.new.run.steps c.in_ok-progress.progress c.take_piece.new.begun.items
    c.in_ok-progress.ensures.topology c.in_ok-progress.ensures.takes (subst (Audits topology text) (sym c.self.view_is) audits)
