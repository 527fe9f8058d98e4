use Rattle.std.proofs.Common.{arith}
use Rattle.core_state.proofs.NewQueues.{list_more}
use Rattle.plain_run.proofs.works.empty_lists.Goals as goal

pub loop-k-preserved : goal.loop-k-preserved
loop-k-preserved c =
    let l = c.loop-k in
    let new = c.push_reserved.ensures in
    record {
      len = omega (arith, new.len, l.invariant.len);
      room = omega (arith, l.invariant.room, new.len, new.capacity, c.loop-k-test.true);
      empty = list_more l.lists.items c.push_reserved.new.self.items c.new.result new.items l.invariant.empty c.new.ensures.items;
    }
