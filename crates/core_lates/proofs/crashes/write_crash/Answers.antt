use Rattle.std.proofs.Common.{refl, arith}
use Rattle.pipe_types.specs.declared.message.BatchEnd.TheVariants.{Crashed}
use Rattle.pipe_types.specs.declared.step.Step.TheVariants.{Wrote}
use Rattle.core_state.specs.declared.state.Core.{Core}
use Rattle.core_state.proofs.Steps.{holds_after, log_still}
use Rattle.core_state.proofs.Rooms.{room_beside}
use Rattle.core_lates.proofs.Rooms.{wrote_due, step_room, rest_room}
use Rattle.core_lates.proofs.Crashing.{wrote_within, unwritten_fields, write_stays, write_owes}
use Rattle.core_lates.proofs.crashes.write_crash.Goals as goal

pub come_home-requires : goal.come_home-requires
come_home-requires c =
    let core = c.args.core.now in
    let x = c.requires.holds in
    omega (arith, x.fields.sized.posts, wrote_within core.topology core.journal.steps c.args.stage x.sound c.requires.legal)

pub returns-clause-owed : goal.returns-clause-owed
returns-clause-owed c =
    let core = c.args.core.now in
    let core-new : Core = record core { journal = c.push_spare.new.self; posts = c.come_home.new.posts; totals = record core.totals { quiet = 0 } } in
    write_owes core-new core.topology c.args.stage core.journal.steps refl c.push_spare.ensures.written

pub returns-clause-holds : goal.returns-clause-holds
returns-clause-holds c =
    let core = c.args.core.now in
    let x = c.requires.holds in
    let core-new : Core = record core { journal = c.push_spare.new.self; posts = c.come_home.new.posts; totals = record core.totals { quiet = 0 } } in
    holds_after core core-new (Wrote c.args.stage 0 Crashed) x refl c.push_spare.ensures.written c.requires.legal
    (unwritten_fields core core.topology core.journal.steps c.args.stage c.push_spare.new.self c.come_home.new.posts x.fields x.sound x.legal c.requires.legal c.come_home.ensures.posts c.come_home.ensures.len)
    (room_beside core core-new (Wrote c.args.stage 0 Crashed) x c.requires.legal refl (rest_room core (Wrote c.args.stage 0 Crashed) c.push_spare.new.self.spare x (wrote_due core c.args.stage 0 Crashed x c.requires.legal) c.push_spare.ensures.spare) refl refl refl refl refl refl refl)
    (log_still core (Wrote c.args.stage 0 Crashed) c.push_spare.new.self.acked x c.requires.legal (write_stays core.topology core.journal.steps c.args.stage).places refl c.push_spare.ensures.same_acked)

pub push_spare-requires : goal.push_spare-requires
push_spare-requires c =
    let core = c.args.core.now in
    let x = c.requires.holds in
    step_room core (Wrote c.args.stage 0 Crashed) x (wrote_due core c.args.stage 0 Crashed x c.requires.legal)
