use Rattle.stage_buffer.proofs.Search.{earliest_so_far}
use Rattle.stage_buffer.proofs.oldest.Goals as goal

pub loop-part-preserved : goal.loop-part-preserved
loop-part-preserved g c = earliest_so_far c.args.rings.now c.loop-part.part c.index-rings-part.result c.loop-part.found c.earlier-found.result _ c.number.result c.loop-part-test.true c.index-rings-part.is c.front.ensures c.number.ensures c.earlier-found.ensures c.loop-part.invariant
