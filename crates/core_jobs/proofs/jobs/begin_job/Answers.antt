use Rattle.std.proofs.Common.{sym, ◌∙◌}
use Rattle.core_jobs.proofs.Beginning.{begins_fetch, begins_take, begins_child}
use Rattle.core_jobs.proofs.jobs.begin_job.Goals as goal

pub begin_fetch-requires-clause-legal : goal.begin_fetch-requires-clause-legal
begin_fetch-requires-clause-legal c =
    let core = c.args.core.now in
    begins_fetch core.topology core.journal.steps c.args.stage (sym c.is_producer.ensures ∙ c.if-is_producer.true) c.requires.begins

pub begin_child-requires-clause-legal : goal.begin_child-requires-clause-legal
begin_child-requires-clause-legal c =
    let core = c.args.core.now in
    let x = c.requires.stands.holds in
    begins_child core.topology core.journal.steps c.args.stage x.sound x.legal (sym c.is_supervisor.ensures ∙ c.if-is_supervisor.true) c.requires.begins

pub begin_take-requires-clause-legal : goal.begin_take-requires-clause-legal
begin_take-requires-clause-legal c =
    let core = c.args.core.now in
    begins_take core.topology core.journal.steps c.args.stage (sym c.is_producer.ensures ∙ c.if-is_producer.false) (sym c.is_supervisor.ensures ∙ c.if-is_supervisor.false) c.requires.begins
