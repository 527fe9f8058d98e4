use Rattle.std.proofs.Common.{◌<◌, length, arith, ◌∙◌, ap, Some, None, option_map}
use Rattle.stage_buffer.specs.Order.{unit_of}
use Rattle.stage_buffer.proofs.Rings.{pop_room}
use Rattle.stage_buffer.proofs.Popping.{earliest_within, first_becomes, first_unit, none_first_becomes, none_first_unit}
use Rattle.stage_buffer.proofs.Search.{earliest_at}
use Rattle.stage_buffer.proofs.pop_oldest.Goals as goal

pub returns-in_err-part-clause-unit : goal.returns-in_err-part-clause-unit
returns-in_err-part-clause-unit g c = ap (option_map unit_of) c.from_residual.ensures ∙ none_first_unit c.args.rings.now.items (earliest_at c.deref.result.now c.args.rings.now.items None c.deref.ensures.value c.in_err-part.ensures) c.requires.orders

pub returns-in_err-part-clause-went : goal.returns-in_err-part-clause-went
returns-in_err-part-clause-went g c = none_first_becomes c.args.rings.now.items (earliest_at c.deref.result.now c.args.rings.now.items None c.deref.ensures.value c.in_err-part.ensures) c.requires.orders

pub index_mut-ring-requires : goal.index_mut-ring-requires
index_mut-ring-requires g c =
    let within : c.in_ok-part.part < length c.deref.result.now = earliest_within c.deref.result.now c.in_ok-part.part c.in_ok-part.field-0-1 c.in_ok-part.ensures in
    omega arith

pub returns-clause-unit : goal.returns-clause-unit
returns-clause-unit g c = ap (option_map unit_of) c.pop_front.ensures.value ∙ first_unit c.args.rings.now.items c.in_ok-part.part c.in_ok-part.field-0-1 c.index_mut-ring.result.now (earliest_at c.deref.result.now c.args.rings.now.items (Some (c.in_ok-part.part, c.in_ok-part.field-0-1)) c.deref.ensures.value c.in_ok-part.ensures) c.index_mut-ring.ensures.value c.requires.orders

pub returns-clause-went : goal.returns-clause-went
returns-clause-went g c = first_becomes c.args.rings.now.items c.in_ok-part.part c.in_ok-part.field-0-1 c.index_mut-ring.result.now c.pop_front.new.self (earliest_at c.deref.result.now c.args.rings.now.items (Some (c.in_ok-part.part, c.in_ok-part.field-0-1)) c.deref.ensures.value c.in_ok-part.ensures) c.index_mut-ring.ensures.value c.pop_front.ensures.items c.requires.orders

pub returns-clause-spare : goal.returns-clause-spare
returns-clause-spare g c = pop_room c.args.rings.now.items c.in_ok-part.part c.index_mut-ring.result.now c.pop_front.new.self (earliest_within c.args.rings.now.items c.in_ok-part.part c.in_ok-part.field-0-1 (earliest_at c.deref.result.now c.args.rings.now.items (Some (c.in_ok-part.part, c.in_ok-part.field-0-1)) c.deref.ensures.value c.in_ok-part.ensures)) c.index_mut-ring.ensures.value c.pop_front.ensures.items
