use Rattle.std.proofs.Common.{◌-◌, ◌≤◌, arith, ap, sym, ◌∙◌, length}
use Rattle.rate_gate.proofs.RoomLaws.{all_parts, length_of}
use Rattle.rate_gate.proofs.room.Room.hand.Goals as goal

pub returns-clause-rest : goal.returns-clause-rest
returns-clause-rest c =
    let i = c.self.inside in
    let inv = c.self.invariant in
    let held : c.args.n ≤ i.end - i.start = omega (arith, c.requires.held, ap length c.self.view_is, length_of i.bytes.items i.start i.end inv.0 inv.1) in
    let after = rw c.deref.ensures.value at c.copy_from_slice.ensures.after in
    sym c.self.view_is ∙ all_parts i.bytes.items c.copy_from_slice.new.self _ i.start i.end c.args.n (omega (arith, held, inv.0)) inv.1 after
