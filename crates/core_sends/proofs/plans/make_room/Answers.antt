use Rattle.core_sends.proofs.Roomy.{live_within_rows, roomy_stands}
use Rattle.std.proofs.Common.{length}
use Rattle.core_sends.proofs.plans.make_room.Goals as goal

pub make_room-requires : goal.make_room-requires
make_room-requires c =
    let core = c.args.core.now in
    let x = c.requires.stands.holds in
    record { within = live_within_rows core.topology core.journal.steps c.args.sent.now (length core.inboxes.items) x.sound x.fields.sized.inboxes c.requires.live }

pub returns-clause-stands : goal.returns-clause-stands
returns-clause-stands c = roomy_stands c.args.core.now c.make_room.new.inboxes c.make_room.ensures.same c.make_room.ensures.len c.requires.stands
