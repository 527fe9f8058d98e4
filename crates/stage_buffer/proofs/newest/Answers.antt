use Rattle.stage_buffer.proofs.Search.{latest_so_far}
use Rattle.stage_buffer.proofs.newest.Goals as goal

pub loop-part-preserved : goal.loop-part-preserved
loop-part-preserved g c = latest_so_far c.args.rings.now c.loop-part.part c.index-rings-part.result c.loop-part.found c.later-found.result _ c.number.result c.loop-part-test.true c.index-rings-part.is c.back.ensures c.number.ensures c.later-found.ensures c.loop-part.invariant
