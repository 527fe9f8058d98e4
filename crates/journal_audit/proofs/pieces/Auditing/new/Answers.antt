use Rattle.journal_audit.proofs.Piecewise.{fresh_audits}
use Rattle.journal_audit.proofs.pieces.Auditing.new.Goals as goal

pub returns-clause-audits : goal.returns-clause-audits
returns-clause-audits c = fresh_audits c.args.topology.now c.in_ok-begin.field-0.topology c.in_ok-begin.field-0.steps c.new.result.items c.in_ok-begin.ensures.topology c.in_ok-begin.ensures.fresh c.new.ensures.items
