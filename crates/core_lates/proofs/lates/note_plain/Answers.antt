use Rattle.std.proofs.Common.{refl, arith}
use Rattle.pipe_types.specs.declared.step.Step.TheVariants.{Late}
use Rattle.core_state.specs.declared.state.Core.{Core}
use Rattle.core_state.proofs.Rooms.{room_beside}
use Rattle.core_lates.proofs.Answering.{post_of, plain_fields, late_stands}
use Rattle.core_lates.proofs.Rooms.{late_due, step_room, rest_room}
use Rattle.core_lates.proofs.lates.note_plain.Goals as goal

pub come_home-requires : goal.come_home-requires
come_home-requires c =
    let core = c.args.core.now in
    let x = c.requires.stands.holds in
    let known = post_of core.topology core.journal.steps c.args.post.stage c.args.post.slot c.args.incarnation c.args.answer x.sound x.legal c.requires.legal in
    omega (arith, x.fields.sized.posts, known.within, known.low)

pub returns-clause-stands : goal.returns-clause-stands
returns-clause-stands c =
    let core = c.args.core.now in
    let s = c.args.post.stage in
    let slot = c.args.post.slot in
    let x = c.requires.stands.holds in
    let known = post_of core.topology core.journal.steps s slot c.args.incarnation c.args.answer x.sound x.legal c.requires.legal in
    let core-new : Core = record core { journal = c.push_spare.new.self; posts = c.come_home.new.posts; totals = record core.totals { quiet = 0 } } in
    late_stands core core-new s slot c.args.incarnation c.args.answer x refl c.push_spare.ensures.written c.requires.legal
    (plain_fields core core.topology core.journal.steps s slot c.args.incarnation c.args.answer c.push_spare.new.self c.come_home.new.posts x.fields x.sound x.legal known c.requires.plain c.come_home.ensures.posts c.come_home.ensures.len)
    (room_beside core core-new (Late s slot c.args.incarnation c.args.answer) x c.requires.legal refl (rest_room core (Late s slot c.args.incarnation c.args.answer) c.push_spare.new.self.spare x (late_due core s slot c.args.incarnation c.args.answer x c.requires.legal) c.push_spare.ensures.spare) refl refl refl refl refl refl refl) c.push_spare.ensures.same_acked

pub push_spare-requires : goal.push_spare-requires
push_spare-requires c =
    let core = c.args.core.now in
    let x = c.requires.stands.holds in
    step_room core (Late c.args.post.stage c.args.post.slot c.args.incarnation c.args.answer) x (late_due core c.args.post.stage c.args.post.slot c.args.incarnation c.args.answer x c.requires.legal)
