use Rattle.std.proofs.Common.{arith}
use Rattle.stage_buffer.proofs.Rings.{grown, grown_room}
use Rattle.stage_buffer.proofs.grow.Goals as goal

pub returns-in_ok-resize-clause-same : goal.returns-in_ok-resize-clause-same
returns-in_ok-resize-clause-same g c = grown c.args.rings.now.items c.args.part c.index_mut-ring.result.now c.resize.new.self c.max.result c.requires.within c.index_mut-ring.ensures.value c.in_ok-resize.ensures.ok (omega arith)

pub returns-in_ok-resize-clause-room : goal.returns-in_ok-resize-clause-room
returns-in_ok-resize-clause-room g c =
    let at = grown_room c.args.rings.now.items c.args.part c.resize.new.self c.index_mut-ring.result.now.items c.max.result c.requires.within c.in_ok-resize.ensures.ok in
    omega arith
