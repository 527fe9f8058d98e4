use Rattle.body_jobs.proofs.Settling.{settles_failed}
use Rattle.body_jobs.proofs.batch.reason_left.Goals as goal

pub returns-in-Ok-clause-done : goal.returns-in-Ok-clause-done
returns-in-Ok-clause-done g c = settles_failed c.in-Ok.by c.args.why c.reason_after.result c.reason_after.ensures c.in-Ok.ensures.done

pub returns-in-Ok-clause-lawful : goal.returns-in-Ok-clause-lawful
returns-in-Ok-clause-lawful g c = record { answered = c.in-Ok.by; lawful = c.in-Ok.ensures.lawful; is = c.reason_after.ensures }
