use Rattle.std.proofs.Common.{arith, rules}
use Rattle.rate_gate.proofs.RoomLaws.{part_of, record_of}
use Rattle.rate_gate.proofs.room.gift_of.Goals as goal

pub returns-in-Some : goal.returns-in-Some
returns-in-Some c =
    let first = c.in-Some.ensures in
    (omega arith, omega (arith, first.0.high), record_of c.args.next.now c.in-Some.at first.0 first.1, c.if-has_left.true)

pub returns-in-Some-2 : goal.returns-in-Some-2
returns-in-Some-2 c =
    let first = c.in-Some.ensures in
    (search rules, omega (arith, first.0.high), part_of c.args.next.now c.in-Some.at first.0 first.1)
