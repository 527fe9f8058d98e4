use Rattle.pipe_top.proofs.Audits.{journal_read, journal_failed, journal_wanting, journal_unasked}
use Rattle.pipe_top.proofs.audit.audit_named.Goals as goal

pub returns-in_default : goal.returns-in_default
returns-in_default g c = journal_unasked _ c.args.name.now c.args.topology.now

pub returns-in-Ok-open_source : goal.returns-in-Ok-open_source
returns-in-Ok-open_source g c =
    journal_read _ _ _ c.args.name.now c.in-Ok.name c.args.topology.now _ c.judge_opened.result _ c.in-Ok.ensures c.in-Ok-open_source.ensures.opens c.in-Ok-open_source.ensures.given c.judge_opened.ensures

pub returns-in-Err-Failed : goal.returns-in-Err-Failed
returns-in-Err-Failed g c = journal_failed _ _ c.args.name.now c.in-Ok.name c.args.topology.now c.in-Ok.ensures (rw c.in-Err-Failed.field-0-is at c.in-Err-Failed.ensures.opens)

pub returns-in-Err-OutOfMemory : goal.returns-in-Err-OutOfMemory
returns-in-Err-OutOfMemory g c = journal_wanting _ _ c.args.name.now c.in-Ok.name c.args.topology.now (rw c.in-Err-OutOfMemory.field-0-is at c.in-Err-OutOfMemory.ensures.opens)
