use Rattle.std.proofs.Common.{arith}
use Rattle.core_takes.proofs.Rooming.{chunks_stand}
use Rattle.core_children.proofs.children.make_slot_ready.Goals as goal

pub make_chunk_room-requires : goal.make_chunk_room-requires
make_chunk_room-requires c = omega (arith, c.requires.within, c.requires.stands.holds.fields.sized.chunks)

pub returns-clause-stands : goal.returns-clause-stands
returns-clause-stands c = chunks_stand c.args.core.now c.make_chunk_room.new.chunks c.requires.stands c.make_chunk_room.ensures.same c.make_chunk_room.ensures.len
