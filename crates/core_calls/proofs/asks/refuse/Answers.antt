use Rattle.std.proofs.Common.{◌≡◌, ◌∷◌, ◌∙◌, ◌+◌, ap, refl, arith}
use Rattle.pipe_types.specs.declared.step.Step.TheVariants.{Refuse}
use Rattle.pipe_model.specs.History.{History, controls}
use Rattle.core_tables.specs.declared.rows.Totals.{Totals}
use Rattle.core_state.specs.declared.state.Core.{Core}
use Rattle.core_state.proofs.Rooms.{room_due, room_beside}
use Rattle.core_state.proofs.Steps.{holds_after, unowed_after, still_stands, log_kept}
use Rattle.core_state.proofs.Ending.{refused_fields, controls_few}
use Rattle.core_calls.proofs.asks.refuse.Goals as goal

pub returns-clause-stands : goal.returns-clause-stands
returns-clause-stands c =
    let core = c.args.core.now in
    let x = c.requires.stands.holds in
    let core-new : Core = record core { journal = c.push_spare.new.self; totals = record core.totals { controls = core.totals.controls + 1; quiet = 0 } } in
    let written = c.push_spare.ensures.written ∙ ap (λ (h : History). Refuse c.args.line ∷ h) c.in_ok-reserve.ensures.same_steps in
    let fields = refused_fields core core.topology core.journal.steps c.args.line c.push_spare.new.self x.fields in
    let due = room_due core (Refuse c.args.line ∷ core.journal.steps) c.reserve.new.self.spare c.push_spare.new.self.spare x c.in_ok-reserve.ensures.room c.push_spare.ensures.spare in
    let room = room_beside core core-new (Refuse c.args.line) x c.requires.legal refl due refl refl refl refl refl refl refl in
    let holds = holds_after core core-new (Refuse c.args.line) x refl written c.requires.legal fields room
    (log_kept core (Refuse c.args.line) c.push_spare.new.self.acked x c.requires.legal refl refl (c.push_spare.ensures.same_acked ∙ c.in_ok-reserve.ensures.same_acked)) in
    record { holds = holds; unowed = unowed_after core-new core.topology (Refuse c.args.line) core.journal.steps refl written refl }

pub returns-in_err-reserve-clause-stands : goal.returns-in_err-reserve-clause-stands
returns-in_err-reserve-clause-stands c = still_stands c.args.core.now c.reserve.new.self c.requires.stands c.reserve.ensures.same_steps c.reserve.ensures.spare c.reserve.ensures.same_acked

pub overflow_add-core : goal.overflow_add-core
overflow_add-core c =
    let core = c.args.core.now in
    let same : core.totals.controls ≡ controls core.journal.steps = ap (λ (y : Totals). y.controls) c.requires.stands.holds.fields.totals in
    omega (arith, same, controls_few core.topology core.journal.steps c.args.line c.requires.legal)
