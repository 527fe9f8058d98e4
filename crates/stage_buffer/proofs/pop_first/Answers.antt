use Rattle.std.proofs.Common.{arith, ◌∙◌}
use Rattle.stage_buffer.proofs.Rings.{pop_becomes, pop_room, pop_unit, past_becomes, past_unit}
use Rattle.stage_buffer.proofs.pop_first.Goals as goal

pub returns-then-part-len-clause-unit : goal.returns-then-part-len-clause-unit
returns-then-part-len-clause-unit g c = past_unit c.args.rings.now.items c.args.part (omega arith)

pub returns-then-part-len-clause-went : goal.returns-then-part-len-clause-went
returns-then-part-len-clause-went g c = past_becomes c.args.rings.now.items c.args.part (omega arith) c.requires.orders

pub returns-clause-unit : goal.returns-clause-unit
returns-clause-unit g c = c.pop_front.ensures.value ∙ pop_unit c.args.rings.now.items c.args.part c.index_mut-ring.result.now (omega arith) c.index_mut-ring.ensures.value

pub returns-clause-went : goal.returns-clause-went
returns-clause-went g c = pop_becomes c.args.rings.now.items c.args.part c.index_mut-ring.result.now c.pop_front.new.self (omega arith) c.index_mut-ring.ensures.value c.pop_front.ensures.items c.requires.orders

pub returns-clause-spare : goal.returns-clause-spare
returns-clause-spare g c = pop_room c.args.rings.now.items c.args.part c.index_mut-ring.result.now c.pop_front.new.self (omega arith) c.index_mut-ring.ensures.value c.pop_front.ensures.items
