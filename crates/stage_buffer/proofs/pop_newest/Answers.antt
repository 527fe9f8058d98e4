use Rattle.std.proofs.Common.{◌<◌, length, arith, ◌∙◌, ap, Some, None, option_map}
use Rattle.stage_buffer.specs.Order.{unit_of}
use Rattle.stage_buffer.proofs.Popping.{latest_within, last_becomes, last_unit, last_room, none_last_becomes, none_last_unit}
use Rattle.stage_buffer.proofs.Search.{latest_at}
use Rattle.stage_buffer.proofs.pop_newest.Goals as goal

pub returns-in_err-part-clause-unit : goal.returns-in_err-part-clause-unit
returns-in_err-part-clause-unit g c = ap (option_map unit_of) c.from_residual.ensures ∙ none_last_unit c.args.rings.now.items (latest_at c.deref.result.now c.args.rings.now.items None c.deref.ensures.value c.in_err-part.ensures) c.requires.orders

pub returns-in_err-part-clause-went : goal.returns-in_err-part-clause-went
returns-in_err-part-clause-went g c = none_last_becomes c.args.rings.now.items (latest_at c.deref.result.now c.args.rings.now.items None c.deref.ensures.value c.in_err-part.ensures) c.requires.orders

pub index_mut-ring-requires : goal.index_mut-ring-requires
index_mut-ring-requires g c =
    let within : c.in_ok-part.part < length c.deref.result.now = latest_within c.deref.result.now c.in_ok-part.part c.in_ok-part.field-0-1 c.in_ok-part.ensures in
    omega arith

pub returns-clause-unit : goal.returns-clause-unit
returns-clause-unit g c = ap (option_map unit_of) c.pop_back.ensures.value ∙ last_unit c.args.rings.now.items c.in_ok-part.part c.in_ok-part.field-0-1 c.index_mut-ring.result.now (latest_at c.deref.result.now c.args.rings.now.items (Some (c.in_ok-part.part, c.in_ok-part.field-0-1)) c.deref.ensures.value c.in_ok-part.ensures) c.index_mut-ring.ensures.value c.requires.orders

pub returns-clause-went : goal.returns-clause-went
returns-clause-went g c = last_becomes c.args.rings.now.items c.in_ok-part.part c.in_ok-part.field-0-1 c.index_mut-ring.result.now c.pop_back.new.self (latest_at c.deref.result.now c.args.rings.now.items (Some (c.in_ok-part.part, c.in_ok-part.field-0-1)) c.deref.ensures.value c.in_ok-part.ensures) c.index_mut-ring.ensures.value c.pop_back.ensures.items c.requires.orders

pub returns-clause-spare : goal.returns-clause-spare
returns-clause-spare g c = last_room c.args.rings.now.items c.in_ok-part.part c.in_ok-part.field-0-1 c.index_mut-ring.result.now c.pop_back.new.self (latest_at c.deref.result.now c.args.rings.now.items (Some (c.in_ok-part.part, c.in_ok-part.field-0-1)) c.deref.ensures.value c.in_ok-part.ensures) c.index_mut-ring.ensures.value c.pop_back.ensures.items
