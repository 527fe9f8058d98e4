use Rattle.std.proofs.Common.{refl}
use Rattle.pipe_top.proofs.Reading.{upgrade_came, upgrade_unread}
use Rattle.pipe_top.proofs.program.upgrade_file.Goals as goal

pub returns-in-Ok-clause-came : goal.returns-in-Ok-clause-came
returns-in-Ok-clause-came g c =
    let r = c.finish_upgrade in
    λ boxes. upgrade_came _ _ _ boxes c.args.path.now c.in-Ok.found r.result.topology r.result.journal.steps r.result.verdict c.in-Ok.ensures r.ensures.upgraded
    refl (rw r.ensures.same_clock refl) (rw r.ensures.same_boxes refl)

pub returns-in-Err-clause-came : goal.returns-in-Err-clause-came
returns-in-Err-clause-came g c =
    let r = c.refused in
    λ boxes. upgrade_unread _ _ boxes c.args.path.now c.in-Err.refusal r.result.topology r.result.journal.steps r.result.verdict c.in-Err.ensures r.ensures.verdict r.ensures.no_run
    (rw r.ensures.same_clock refl) (rw r.ensures.same_boxes refl)
