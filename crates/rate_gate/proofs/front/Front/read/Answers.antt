use Rattle.std.proofs.Common.{◌≡◌, ◌++◌, length, arith, refl}
use Rattle.rate_gate.specs.Front.{HoldsLast, taken_before, front_seen}
use Rattle.rate_gate.proofs.FrontLaws.{filled_last, filled_parts, given_bytes, given_last, no_bytes}
use Rattle.rate_gate.proofs.front.Front.read.Goals.{then-len-eq0+in-Got, else-len-eq0}
use Rattle.rate_gate.proofs.front.Front.read.Goals as goal

pub returns-clause-last : goal.returns-clause-last
returns-clause-last g c = λ t.
    let source = g.B.ByteSource in
    let ahead : HoldsLast (source.told c.if-len-eq0.source) c.if-len-eq0.self.room (source.taken c.if-len-eq0.source) =
    elim c.if-len-eq0.branch [
      | then-len-eq0+in-Got w ↦
          rw (w.self-is, w.source-is) (λ u. filled_last (source.taken c.args.source.now) (source.taken w.fill.new.source) w.fill.new.self ((w.in-Got.ensures.bytes (rw w.in-Got.ensures.same_telling at u)).1))
      | else-len-eq0 w ↦ rw (w.self-is, w.source-is) c.requires.last
    ]
    in
    given_last (length c.args.piece.now) (front_seen c.if-len-eq0.self) (front_seen c.give.new.self) c.give.new.piece c.give.result (source.taken c.if-len-eq0.source) c.give.ensures.given (ahead t)

pub returns-clause-bytes : goal.returns-clause-bytes
returns-clause-bytes g c = λ t.
    let source = g.B.ByteSource in
    let none = no_bytes c.args.self.now.room in
    let ahead : (source.taken c.if-len-eq0.source ≡ taken_before c.if-len-eq0.self.room (source.taken c.if-len-eq0.source) ++ c.if-len-eq0.self.room)
    × ((taken_before c.if-len-eq0.self.room (source.taken c.if-len-eq0.source) ≡ taken_before c.args.self.now.room (source.taken c.args.source.now))
    × (c.args.self.now.room ++ source.left c.args.source.now ≡ c.if-len-eq0.self.room ++ source.left c.if-len-eq0.source)) =
    elim c.if-len-eq0.branch [
      | then-len-eq0+in-Got w ↦
          rw (w.self-is, w.source-is)
          (filled_parts c.args.self.now.room (source.taken c.args.source.now) (source.left c.args.source.now) w.fill.new.self (source.taken w.fill.new.source) (source.left w.fill.new.source)
          (none (omega (arith, c.len.ensures, w.if-len-eq0.true))) (w.in-Got.ensures.bytes t))
      | else-len-eq0 w ↦ rw (w.self-is, w.source-is) (c.requires.last t, (refl, refl))
    ]
    in
    given_bytes (length c.args.piece.now) (front_seen c.if-len-eq0.self) (front_seen c.give.new.self) c.give.new.piece c.give.result (source.taken c.if-len-eq0.source) (source.left c.if-len-eq0.source)
    (taken_before c.args.self.now.room (source.taken c.args.source.now)) (c.args.self.now.room ++ source.left c.args.source.now) c.give.ensures.given ahead.0 ahead.1.0 ahead.1.1
