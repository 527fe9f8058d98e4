use Rattle.ack_texts.proofs.Along.{front_early}
use Rattle.ack_texts.proofs.groups.rows_from.Goals as goal

pub returns-else-rows-count-clause-early : goal.returns-else-rows-count-clause-early
returns-else-rows-count-clause-early c = front_early c.args.rows.now c.rows.count c.args.at _ c.rows-test.true c.rows.invariant.within c.if-rows-count.false
