use Rattle.std.proofs.Common.{ap, length, arith}
use Rattle.pipe_journal.proofs.Cutting.{as_many}
use Rattle.pipe_journal.proofs.shelf.Shelf.get.Goals as goal

pub part-requires-clause-within : goal.part-requires-clause-within
part-requires-clause-within c =
    let long = as_many 0 c.self.inside.bytes.items c.self.inside.ends.items in
    let seen = ap length c.self.view_is in
    let lent = ap length c.deref-2.ensures.value in
    omega (arith, c.requires)
