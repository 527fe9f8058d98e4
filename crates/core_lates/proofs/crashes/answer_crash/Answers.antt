use Rattle.std.proofs.Common.{refl, arith}
use Rattle.pipe_types.specs.declared.step.Step.TheVariants.{Done}
use Rattle.core_state.specs.declared.state.Core.{Core}
use Rattle.core_state.proofs.Steps.{holds_after, log_still}
use Rattle.core_state.proofs.Rooms.{room_beside}
use Rattle.core_lates.proofs.Rooms.{done_due, step_room, rest_room}
use Rattle.core_lates.proofs.Crashing.{done_within, crashed_fields, crash_stays, crash_owes}
use Rattle.core_lates.proofs.crashes.answer_crash.Goals as goal

pub come_home-requires : goal.come_home-requires
come_home-requires c =
    let core = c.args.core.now in
    let x = c.requires.holds in
    omega (arith, x.fields.sized.posts, done_within core.topology core.journal.steps c.args.stage c.args.replies x.sound c.requires.legal)

pub returns-clause-owed : goal.returns-clause-owed
returns-clause-owed c =
    let core = c.args.core.now in
    let core-new : Core = record core { journal = c.push_spare.new.self; posts = c.come_home.new.posts; totals = record core.totals { quiet = 0 } } in
    crash_owes core-new core.topology c.args.stage c.args.replies core.journal.steps refl c.push_spare.ensures.written c.requires.crash

pub returns-clause-holds : goal.returns-clause-holds
returns-clause-holds c =
    let core = c.args.core.now in
    let x = c.requires.holds in
    let core-new : Core = record core { journal = c.push_spare.new.self; posts = c.come_home.new.posts; totals = record core.totals { quiet = 0 } } in
    holds_after core core-new (Done c.args.stage c.args.replies) x refl c.push_spare.ensures.written c.requires.legal
    (crashed_fields core core.topology core.journal.steps c.args.stage c.args.replies c.push_spare.new.self c.come_home.new.posts x.fields x.sound x.legal c.requires.legal c.requires.crash c.come_home.ensures.posts c.come_home.ensures.len)
    (room_beside core core-new (Done c.args.stage c.args.replies) x c.requires.legal refl (rest_room core (Done c.args.stage c.args.replies) c.push_spare.new.self.spare x (done_due core c.args.stage c.args.replies x c.requires.legal) c.push_spare.ensures.spare) refl refl refl refl refl refl refl)
    (log_still core (Done c.args.stage c.args.replies) c.push_spare.new.self.acked x c.requires.legal (crash_stays core.topology core.journal.steps c.args.stage c.args.replies c.requires.crash).places refl c.push_spare.ensures.same_acked)

pub push_spare-requires : goal.push_spare-requires
push_spare-requires c =
    let core = c.args.core.now in
    let x = c.requires.holds in
    step_room core (Done c.args.stage c.args.replies) x (done_due core c.args.stage c.args.replies x c.requires.legal)
