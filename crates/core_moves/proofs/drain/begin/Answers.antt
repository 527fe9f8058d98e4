use Rattle.std.proofs.Common.{◌≡◌, ◌∷◌, ◌∙◌, ap, refl, arith, true}
use Rattle.pipe_types.specs.declared.step.Step.TheVariants.{Drain}
use Rattle.pipe_model.specs.History.{History, controls}
use Rattle.core_tables.specs.declared.rows.Totals.{Totals}
use Rattle.core_state.specs.declared.state.Core.{Core}
use Rattle.core_state.specs.Stands.{Fields}
use Rattle.core_state.proofs.Rooms.{room_due, room_beside}
use Rattle.core_state.proofs.Steps.{holds_after, unowed_after, still_stands, log_kept}
use Rattle.core_moves.proofs.Begun.{began_fields, lines_few}
use Rattle.core_moves.proofs.drain.begin.Goals as goal

pub lines_read-core-requires : goal.lines_read-core-requires
lines_read-core-requires c =
    let core = c.args.core.now in
    let same : core.totals.controls ≡ controls core.journal.steps = ap (λ (y : Totals). y.controls) c.requires.stands.holds.fields.totals in
    record { few = λ is. omega (arith, same, lines_few core.topology core.journal.steps c.args.cause c.requires.legal is) }

pub returns-clause-stands : goal.returns-clause-stands
returns-clause-stands c =
    let core = c.args.core.now in
    let cause = c.args.cause in
    let x = c.requires.stands.holds in
    let core-new : Core = record core { journal = c.push_spare.new.self; totals = record core.totals { controls = c.lines_read-core.result; quiet = 0; draining = true } } in
    let written = c.push_spare.ensures.written ∙ ap (λ (h : History). Drain cause ∷ h) c.in_ok-reserve.ensures.same_steps in
    let fields : Fields core-new core.topology (Drain cause ∷ core.journal.steps) = rw c.lines_read-core.ensures (began_fields core core.topology core.journal.steps cause c.push_spare.new.self x.fields) in
    let due = room_due core (Drain cause ∷ core.journal.steps) c.reserve.new.self.spare c.push_spare.new.self.spare x c.in_ok-reserve.ensures.room c.push_spare.ensures.spare in
    let room = room_beside core core-new (Drain cause) x c.requires.legal refl due refl refl refl refl refl refl refl in
    let holds = holds_after core core-new (Drain cause) x refl written c.requires.legal fields room
    (log_kept core (Drain cause) c.push_spare.new.self.acked x c.requires.legal refl refl (c.push_spare.ensures.same_acked ∙ c.in_ok-reserve.ensures.same_acked)) in
    record { holds = holds; unowed = unowed_after core-new core.topology (Drain cause) core.journal.steps refl written refl }

pub returns-in_err-reserve-clause-stands : goal.returns-in_err-reserve-clause-stands
returns-in_err-reserve-clause-stands c = still_stands c.args.core.now c.reserve.new.self c.requires.stands c.reserve.ensures.same_steps c.reserve.ensures.spare c.reserve.ensures.same_acked
