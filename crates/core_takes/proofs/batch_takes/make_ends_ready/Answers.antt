use Rattle.std.proofs.Common.{◌-◌, length, arith, ap, refl}
use Rattle.std.proofs.lemmas.Option.{slice_get_read}
use Rattle.std.proofs.lemmas.Result.{on_ok_weaker}
use Rattle.core_laws.specs.Columns.{closed_numbers}
use Rattle.core_takes.proofs.TakenClosed.{row_of_batch}
use Rattle.core_takes.proofs.Rooming.{ends_stand}
use Rattle.core_takes.proofs.batch_takes.make_ends_ready.Goals as goal

pub overflow_sub-no : goal.overflow_sub-no
overflow_sub-no c = (row_of_batch c.args.core.now c.args.no c.requires.stands.holds c.requires.closed).low

pub index-requires : goal.index-requires
index-requires c = omega (arith, (row_of_batch c.args.core.now c.args.no c.requires.stands.holds c.requires.closed).within, c.args.core.now.batches.ok.0)

pub make_ends_room-requires : goal.make_ends_room-requires
make_ends_room-requires c = omega (arith, c.requires.within, c.requires.stands.holds.fields.sized.ends)

pub returns-clause-ends : goal.returns-clause-ends
returns-clause-ends c =
    let core = c.args.core.now in
    let known = row_of_batch core c.args.no c.requires.stands.holds c.requires.closed in
    let row = known.row c.index.result.now (slice_get_read core.batches.items (length core.batches.items) (c.args.no - 1) c.index.result.now refl known.within c.index.ensures) in
    on_ok_weaker c.make_ends_room.result (λ room. omega (arith, room, c.len-count.ensures, ap (λ o. length (closed_numbers o)) row)) c.make_ends_room.ensures.room

pub returns-clause-stands : goal.returns-clause-stands
returns-clause-stands c = ends_stand c.args.core.now c.make_ends_room.new.ends c.requires.stands c.make_ends_room.ensures.len c.make_ends_room.ensures.rooms
