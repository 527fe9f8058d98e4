use Rattle.std.proofs.Common.{◌∷◌, ◌∙◌, ap, refl}
use Rattle.pipe_types.specs.declared.step.Step.TheVariants.{Tick}
use Rattle.pipe_model.specs.History.{History}
use Rattle.core_state.specs.declared.state.Core.{Core}
use Rattle.core_state.proofs.Rooms.{room_due, room_beside}
use Rattle.core_state.proofs.Steps.{holds_after, unowed_after, still_stands, log_kept}
use Rattle.core_state.proofs.Ending.{ticked_fields}
use Rattle.core_calls.proofs.asks.tick.Goals as goal

pub returns-clause-stands : goal.returns-clause-stands
returns-clause-stands c =
    let core = c.args.core.now in
    let x = c.requires.stands.holds in
    let core-new : Core = record core { journal = c.push_spare.new.self; stages = c.wake_all.new.rows; totals = record core.totals { now = c.args.now } } in
    let written = c.push_spare.ensures.written ∙ ap (λ (h : History). Tick c.args.now ∷ h) c.in_ok-reserve.ensures.same_steps in
    let fields = ticked_fields core core.topology core.journal.steps c.args.now c.push_spare.new.self c.wake_all.new.rows x.fields c.wake_all.ensures.rows c.wake_all.ensures.len in
    let allowed = c.requires.legal in
    let due = room_due core (Tick c.args.now ∷ core.journal.steps) c.reserve.new.self.spare c.push_spare.new.self.spare x c.in_ok-reserve.ensures.room c.push_spare.ensures.spare in
    let room = room_beside core core-new (Tick c.args.now) x allowed refl due refl refl refl refl refl refl refl in
    let holds = holds_after core core-new (Tick c.args.now) x refl written allowed fields room
    (log_kept core (Tick c.args.now) c.push_spare.new.self.acked x allowed refl refl (c.push_spare.ensures.same_acked ∙ c.in_ok-reserve.ensures.same_acked)) in
    record { holds = holds; unowed = unowed_after core-new core.topology (Tick c.args.now) core.journal.steps refl written refl }

pub returns-in_err-reserve-clause-stands : goal.returns-in_err-reserve-clause-stands
returns-in_err-reserve-clause-stands c = still_stands c.args.core.now c.reserve.new.self c.requires.stands c.reserve.ensures.same_steps c.reserve.ensures.spare c.reserve.ensures.same_acked
