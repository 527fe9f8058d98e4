use Rattle.std.proofs.Common.{[], Ok}
use Rattle.journal_audit.proofs.Judging.{found_of}
use Rattle.journal_audit.proofs.whole.audit.Goals as goal

pub returns-clause-verdict : goal.returns-clause-verdict
returns-clause-verdict c = c.verdict.ensures.verdict c.args.topology.now c.args.bytes.now (c.in_ok-audit.ensures.audits c.args.topology.now [] c.in_ok-fresh.ensures.audits)

pub returns-clause-said : goal.returns-clause-said
returns-clause-said c = c.verdict.ensures.said c.args.topology.now c.args.bytes.now c.requires.sound (c.in_ok-audit.ensures.audits c.args.topology.now [] c.in_ok-fresh.ensures.audits)

pub returns-clause-found : goal.returns-clause-found
returns-clause-found c journal behind legal held few whole =
    found_of c.args.topology.now c.args.bytes.now (Ok c.verdict.result) journal behind legal held few whole
    (c.verdict.ensures.verdict c.args.topology.now c.args.bytes.now (c.in_ok-audit.ensures.audits c.args.topology.now [] c.in_ok-fresh.ensures.audits))
