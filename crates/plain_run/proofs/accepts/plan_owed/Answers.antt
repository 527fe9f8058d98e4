use Rattle.std.proofs.Common.{arith}
use Rattle.core_laws.proofs.Lawful.{lawful}
use Rattle.core_sends.proofs.Queued.{plain_cast}
use Rattle.plain_run.proofs.accepts.plan_owed.Goals as goal

pub plan-requires-clause-live : goal.plan-requires-clause-live
plan-requires-clause-live c = c.requires.owes.live

pub plan-requires-clause-plain : goal.plan-requires-clause-plain
plan-requires-clause-plain c = plain_cast c.args.core.now.topology c.args.stage c.requires.holds.sound c.requires.owes.messages

pub plan-requires-clause-few : goal.plan-requires-clause-few
plan-requires-clause-few c =
    let core = c.args.core.now in
    let x = c.requires.holds in
    omega (arith, lawful.few core.topology core.journal.steps c.args.stage x.sound x.legal, lawful.small core.topology core.journal.steps x.sound x.legal)
