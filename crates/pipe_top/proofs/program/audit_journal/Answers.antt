use Rattle.std.proofs.Common.{refl}
use Rattle.pipe_top.proofs.Audits.{journal_found, journal_refused}
use Rattle.pipe_top.proofs.program.audit_journal.Goals as goal

pub returns-in-Ok-clause-comes : goal.returns-in-Ok-clause-comes
returns-in-Ok-clause-comes g c =
    let r = c.audited in
    journal_found _ _ c.args.name.now c.args.topology c.in-Ok.summary r.result.topology r.result.journal.steps r.result.verdict c.in-Ok.ensures r.ensures.audited
    (rw r.ensures.same_clock refl) (rw r.ensures.same_boxes refl)

pub returns-in-Err-clause-comes : goal.returns-in-Err-clause-comes
returns-in-Err-clause-comes g c =
    let r = c.refused in
    journal_refused _ _ c.args.name.now c.args.topology c.in-Err.refusal r.result.topology r.result.journal.steps r.result.verdict c.in-Err.ensures r.ensures.verdict r.ensures.no_run
    (rw r.ensures.same_clock refl) (rw r.ensures.same_boxes refl)
