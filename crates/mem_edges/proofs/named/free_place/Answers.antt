use Rattle.std.proofs.Common.{arith, ◌≡◌, false}
use Rattle.std.specs.Str.{bytes_eq}
use Rattle.mem_edges.proofs.ShelfLaws.{next_place}
use Rattle.mem_edges.proofs.named.free_place.Goals as goal

pub loop-at-preserved : goal.loop-at-preserved
loop-at-preserved g c =
    let x = c.index-shelf-at.result in
    let other : bytes_eq x.name c.args.name.now ≡ false = cc in
    let step = next_place c.args.name.now c.args.shelf.now c.loop-at.at x (omega arith) c.index-shelf-at.is other c.loop-at.invariant.rest c.loop-at.invariant.newest in
    record { rest = step.0; newest = step.1 }
