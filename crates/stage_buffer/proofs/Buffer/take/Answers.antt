use Rattle.std.proofs.Common.{◌∙◌, ap, option_map}
use Rattle.stage_buffer.specs.Order.{unit_of}
use Rattle.stage_buffer.proofs.Methods.{some_went, none_went, went_units, unit_at}
use Rattle.stage_buffer.proofs.Buffer.take.Goals as goal

pub invariant_of-self : goal.invariant_of-self
invariant_of-self g c = none_went c.self.inside.rings.items c.pop_first.new.rings.items c.self.inside.len c.self.inside.arrived c.args.part c.self.invariant c.in_err-arrived.ensures.unit c.pop_first.ensures.went

pub returns-in_err-arrived-clause-unit : goal.returns-in_err-arrived-clause-unit
returns-in_err-arrived-clause-unit g c = rw (← c.self.view_is) (c.from_residual.ensures ∙ ap (option_map unit_of) c.in_err-arrived.ensures.unit ∙ unit_at c.self.inside.rings.items c.args.part 0 c.self.invariant.orders)

pub returns-in_err-arrived-clause-units : goal.returns-in_err-arrived-clause-units
returns-in_err-arrived-clause-units g c = rw (← c.self.view_is) (went_units c.self.inside.rings.items c.pop_first.new.rings.items c.args.part c.pop_first.ensures.went)

pub invariant_of-self-2 : goal.invariant_of-self-2
invariant_of-self-2 g c = some_went c.self.inside.rings.items c.pop_first.new.rings.items c.self.inside.len c.self.inside.arrived c.args.part c.in_ok-arrived.arrived c.self.invariant c.in_ok-arrived.ensures.unit c.pop_first.ensures.went

pub returns-clause-unit : goal.returns-clause-unit
returns-clause-unit g c = rw (← c.self.view_is) (ap (option_map unit_of) c.in_ok-arrived.ensures.unit ∙ unit_at c.self.inside.rings.items c.args.part 0 c.self.invariant.orders)

pub returns-clause-units : goal.returns-clause-units
returns-clause-units g c = rw (← c.self.view_is) (went_units c.self.inside.rings.items c.pop_first.new.rings.items c.args.part c.pop_first.ensures.went)
