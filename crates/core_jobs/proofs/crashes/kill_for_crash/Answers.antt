use Rattle.core_jobs.proofs.Owing.{owed_kill}
use Rattle.core_jobs.proofs.crashes.kill_for_crash.Goals as goal

pub kill_owed-requires-clause-legal : goal.kill_owed-requires-clause-legal
kill_owed-requires-clause-legal c =
    let core = c.args.core.now in
    owed_kill core.topology core.journal.steps c.args.stage c.requires.holds.legal c.requires.owed
