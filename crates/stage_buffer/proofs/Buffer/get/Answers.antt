use Rattle.stage_buffer.proofs.Methods.{unit_found}
use Rattle.stage_buffer.proofs.Buffer.get.Goals as goal

pub returns : goal.returns
returns g c = rw (← c.self.view_is) (unit_found c.deref.result.now c.self.inside.rings.items c.args.part c.args.at _ _ c.deref.ensures.value c.self.invariant.orders c.unit.ensures c.find.ensures)
