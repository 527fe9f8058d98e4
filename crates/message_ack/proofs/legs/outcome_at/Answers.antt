use Rattle.std.proofs.Common.{rules, arith}
use Rattle.message_ack.proofs.EndsLaws.{outcome_step}
use Rattle.message_ack.proofs.legs.outcome_at.Goals as goal

pub loop-end-preserved : goal.loop-end-preserved
loop-end-preserved c =
    outcome_step c.args.ends.now c.loop-end.end-index c.args.at _ c.loop-end.outcome c.outcome_by.result c.first_failed-outcome.result
    c.loop-end-test.true (search rules) c.loop-end.invariant c.outcome_by.ensures c.first_failed-outcome.ensures
