use Rattle.ack_texts.proofs.Along.{begins_none, begins_other, group_of}
use Rattle.ack_texts.proofs.groups.group_len.Goals as goal

pub returns-else-rows-count-clause-group : goal.returns-else-rows-count-clause-group
returns-else-rows-count-clause-group c =
    group_of c.args.rows.now c.rows.count _ c.rows.invariant.some c.rows.invariant.within c.rows.invariant.same (begins_other c.args.rows.now c.rows.count _ _ c.rows-test.true c.if-rows-count.false)

pub returns-after-rows-clause-group : goal.returns-after-rows-clause-group
returns-after-rows-clause-group c =
    group_of c.args.rows.now c.rows.count _ c.rows.invariant.some c.rows.invariant.within c.rows.invariant.same (begins_none c.args.rows.now c.rows.count _ c.rows-test.false)
