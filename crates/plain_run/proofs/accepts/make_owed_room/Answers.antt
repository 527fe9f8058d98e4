use Rattle.std.proofs.Common.{◌≡◌, [], true, sym, subst, All, length}
use Rattle.pipe_types.specs.declared.room.Sent.{Sent}
use Rattle.pipe_model.specs.Lives.{is_live_sub}
use Rattle.core_sends.proofs.Roomy.{planned_live, live_within_rows}
use Rattle.plain_run.proofs.Owing.{still_holds, roomy_holds}
use Rattle.plain_run.proofs.accepts.make_owed_room.Goals as goal

pub make_room-requires : goal.make_room-requires
make_room-requires c =
    let core = c.args.core.now in
    let x = c.requires.holds in
    record {
      within = live_within_rows core.topology core.journal.steps c.args.sent.now (length core.inboxes.items) x.sound x.fields.sized.inboxes
          (subst (All (λ (d : Sent). is_live_sub core.topology core.journal.steps d.sub ≡ true)) (sym c.requires.planned) (planned_live core.topology core.journal.steps c.args.stage [] c.requires.owes.live));
    }

pub returns-in_err-make_room-clause-holds : goal.returns-in_err-make_room-clause-holds
returns-in_err-make_room-clause-holds c = roomy_holds c.args.core.now c.make_room.new.inboxes c.make_room.ensures.same c.make_room.ensures.len c.requires.holds

pub returns-clause-holds : goal.returns-clause-holds
returns-clause-holds c =
    still_holds (record c.args.core.now { inboxes = c.make_room.new.inboxes }) c.reserve.new.self
    (roomy_holds c.args.core.now c.make_room.new.inboxes c.make_room.ensures.same c.make_room.ensures.len c.requires.holds) c.reserve.ensures.same_steps c.reserve.ensures.spare c.reserve.ensures.same_acked
