use Rattle.std.proofs.Common.{◌≡◌, ◌∙◌, sym, subst, All, true, [], arith}
use Rattle.core_laws.proofs.Lawful.{lawful}
use Rattle.core_state.proofs.Steps.{still_stands}
use Rattle.core_sends.proofs.Roomy.{planned_live}
use Rattle.core_sends.proofs.Sendable.{dispatching}
use Rattle.pipe_types.specs.declared.room.Sent.{Sent}
use Rattle.pipe_model.specs.Lives.{is_live_sub}
use Rattle.core_sends.proofs.sending.dispatch_batches.Goals as goal

pub plan_batches-requires-clause-live : goal.plan_batches-requires-clause-live
plan_batches-requires-clause-live c = (dispatching c.args.core.now c.args.stage c.requires.stands.holds c.requires.legal).law.live

pub plan_batches-requires-clause-few : goal.plan_batches-requires-clause-few
plan_batches-requires-clause-few c =
    let core = c.args.core.now in
    let x = c.requires.stands.holds in
    let few = lawful.few core.topology core.journal.steps c.args.stage x.sound x.legal in
    let small = lawful.small core.topology core.journal.steps x.sound x.legal in
    omega (arith, few, small)

pub returns-in_err-reserve-clause-stands : goal.returns-in_err-reserve-clause-stands
returns-in_err-reserve-clause-stands c = still_stands c.make_room.new.core c.reserve.new.self c.make_room.ensures.stands c.reserve.ensures.same_steps c.reserve.ensures.spare c.reserve.ensures.same_acked

pub send_batches-requires-clause-stands : goal.send_batches-requires-clause-stands
send_batches-requires-clause-stands c = still_stands c.make_room.new.core c.reserve.new.self c.make_room.ensures.stands c.reserve.ensures.same_steps c.reserve.ensures.spare c.reserve.ensures.same_acked

pub make_room-requires-clause-live : goal.make_room-requires-clause-live
make_room-requires-clause-live c =
    let core = c.args.core.now in
    let t = core.topology in
    let before = core.journal.steps in
    let live = (dispatching core c.args.stage c.requires.stands.holds c.requires.legal).law.live in
    subst (All (λ (d : Sent). is_live_sub t before d.sub ≡ true)) (sym (c.deref.ensures.value ∙ c.in_ok-planned.ensures.sent)) (planned_live t before c.args.stage [] live)
