use Rattle.std.proofs.Common.{arith}
use Rattle.stage_buffer.proofs.Methods.{end_went, over_is, over_units}
use Rattle.stage_buffer.proofs.Buffer.over.Goals as goal

pub invariant_of-self-2 : goal.invariant_of-self-2
invariant_of-self-2 g c = end_went c.self.inside.rings.items c.pop_end.new.rings.items c.self.inside.len c.self.inside.arrived c.self.inside.keep c.self.invariant c.pop_end.ensures.went

pub returns-clause-unit : goal.returns-clause-unit
returns-clause-unit g c = rw (← c.self.view_is) (over_is c.self.inside.rings.items c.self.inside.size c.in_ok-size.size c.self.inside.len c.self.inside.arrived c.self.inside.keep _ c.in_ok-size.was c.self.invariant (omega arith) c.in_ok-arrived.ensures.unit)

pub returns-clause-units : goal.returns-clause-units
returns-clause-units g c = rw (← c.self.view_is) (over_units c.self.inside.rings.items c.pop_end.new.rings.items c.self.inside.size c.in_ok-size.size c.self.inside.len c.self.inside.arrived c.self.inside.keep c.in_ok-size.was c.self.invariant (omega arith) c.pop_end.ensures.went)
