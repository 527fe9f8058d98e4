use Rattle.std.proofs.Common.{◌≡◌, [], length, drop, ◌∙◌, ap, sym, arith}
use Rattle.std.proofs.lemmas.List.{drop_all}
use Rattle.core_rows.specs.Rows.{open_among}
use Rattle.core_rows.proofs.Finding.{stage_there}
use Rattle.core_rows.proofs.Roomy.{room_among, room_dead, among_more}
use Rattle.core_rows.proofs.rooms.room_of.Goals as goal

pub open_between-requires-clause-to : goal.open_between-requires-clause-to
open_between-requires-clause-to c =
    stage_there c.args.core.now.topology c.as_slice-spec-items.result.now c.loop-spec.spec-index c.spec-item.result c.requires.stands.holds.sound c.as_slice-spec-items.ensures c.loop-spec-test.true c.spec-item.is

pub returns-then-not-is_live : goal.returns-then-not-is_live
returns-then-not-is_live c = room_dead c.args.core.now.topology c.args.core.now.journal.steps c.args.producer.now.no (sym c.is_live.ensures ∙ c.if-not-is_live.true)

pub overflow_add-room : goal.overflow_add-room
overflow_add-room c =
    omega (arith, c.loop-spec.invariant.few, c.loop-spec-test.true, ap length c.as_slice-spec-items.ensures, c.requires.stands.holds.fields.sized.few, c.open_between.type_inv)

pub loop-spec-preserved : goal.loop-spec-preserved
loop-spec-preserved c =
    let core = c.args.core.now in
    let more = among_more core.topology core.journal.steps c.args.producer.now.no c.as_slice-spec-items.result.now c.loop-spec.spec-index c.spec-item.result c.loop-spec-test.true c.spec-item.is in
    record {
      room = omega (arith, more, c.open_between.ensures, c.loop-spec.invariant.room);
      few = omega (arith, c.loop-spec.invariant.few, c.open_between.type_inv);
    }

pub returns : goal.returns
returns c =
    let t = c.args.core.now.topology in
    let h = c.args.core.now.journal.steps in
    let s = c.args.producer.now.no in
    let specs = c.as_slice-spec-items.result.now in
    let none : drop c.loop-spec.spec-index specs ≡ [] = drop_all c.loop-spec.spec-index specs (omega arith) in
    let nothing : open_among t h s (drop c.loop-spec.spec-index specs) ≡ 0 = ap (open_among t h s) none in
    let all : open_among t h s specs ≡ open_among t h s t.stages = ap (open_among t h s) c.as_slice-spec-items.ensures in
    let is = room_among t h s (sym c.is_live.ensures ∙ c.if-not-is_live.false) in
    omega (arith, nothing, all, is, c.loop-spec.invariant.room)
