use Rattle.stage_buffer.proofs.Methods.{came_ordered}
use Rattle.std.proofs.Common.{refl}
use Rattle.stage_buffer.proofs.Buffer.push.Goals as goal

pub invariant_of-self : goal.invariant_of-self
invariant_of-self g c = came_ordered c.self.inside.rings.items c.put.new.rings.items c.self.inside.len c.self.inside.arrived c.args.part (record { at = c.self.inside.arrived; unit = c.args.unit }) c.self.invariant refl c.put.ensures.came
