use Rattle.std.proofs.Common.{refl}
use Rattle.pipe_top.proofs.Reading.{audit_came, audit_unread}
use Rattle.pipe_top.proofs.program.audit_file.Goals as goal

pub returns-in-Ok-clause-came : goal.returns-in-Ok-clause-came
returns-in-Ok-clause-came g c =
    let r = c.audit_journal in
    let w = c.args.words in
    λ boxes. audit_came _ _ _ boxes w.journal.now w.topology.now c.in-Ok.topology r.result.topology r.result.journal.steps r.result.verdict c.in-Ok.ensures r.ensures.comes

pub returns-in-Err-clause-came : goal.returns-in-Err-clause-came
returns-in-Err-clause-came g c =
    let r = c.refused in
    let w = c.args.words in
    λ boxes. audit_unread _ _ boxes w.journal.now w.topology.now c.in-Err.refusal r.result.topology r.result.journal.steps r.result.verdict c.in-Err.ensures r.ensures.verdict r.ensures.no_run
    (rw r.ensures.same_clock refl) (rw r.ensures.same_boxes refl)
