use Rattle.stage_buffer.proofs.Rings.{put_becomes, put_room}
use Rattle.stage_buffer.proofs.put.Goals as goal

pub returns-clause-came : goal.returns-clause-came
returns-clause-came g c = put_becomes c.args.rings.now.items c.args.part c.index_mut-ring.result.now c.push_back.new.self c.args.arrived c.requires.room c.index_mut-ring.ensures.value c.push_back.ensures.items c.requires.orders c.requires.last

pub returns-clause-spare : goal.returns-clause-spare
returns-clause-spare g c = put_room c.args.rings.now.items c.args.part c.index_mut-ring.result.now c.push_back.new.self c.args.arrived c.requires.room c.index_mut-ring.ensures.value c.push_back.ensures.items
