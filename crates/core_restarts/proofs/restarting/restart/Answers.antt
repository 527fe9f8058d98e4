use Rattle.std.proofs.Common.{◌∷◌, ◌∙◌, ◌<◌, ◌≤◌, ap, sym, subst, refl, length, arith}
use Rattle.std.specs.Prelude.{slice_get, if◌then◌else◌, ◌==◌, All, IfSome}
use Rattle.std.proofs.lemmas.Option.{slice_get_within}
use Rattle.pipe_types.specs.declared.step.Step.TheVariants.{Restart}
use Rattle.pipe_model.specs.History.{History}
use Rattle.pipe_model.specs.Legal.{limit_of, restart_times}
use Rattle.restart_core.specs.Restarts.{Remembers}
use Rattle.pipe_laws.proofs.Allowed.{restart_dead}
use Rattle.stage_laws.proofs.Numbering.{numbered_topology}
use Rattle.core_laws.proofs.Past.{restart_known, known_within}
use Rattle.core_state.specs.declared.state.Core.{Core}
use Rattle.core_state.specs.Readings.{lives_by}
use Rattle.core_state.proofs.Reading.{live_by, incarnation_is}
use Rattle.core_state.proofs.Rooms.{room_due, room_beside}
use Rattle.core_state.proofs.Steps.{holds_after, unowed_after, still_stands, log_kept}
use Rattle.core_restarts.specs.Renewals.{live_upto, begins, AreRenewed}
use Rattle.core_restarts.proofs.Unbegun.{incarnation_room}
use Rattle.core_restarts.proofs.Times.{restart_allowed}
use Rattle.core_restarts.proofs.Revived.{closed_rows, pairs_after, restarted_fields}
use Rattle.core_restarts.proofs.restarting.restart.Goals as goal

pub renew_all-requires-clause-first : goal.renew_all-requires-clause-first
renew_all-requires-clause-first c =
    let core = c.args.core.now in
    (known_within core.topology c.args.stage (numbered_topology core.topology c.requires.stands.holds.sound) (restart_known core.topology core.journal.steps c.args.stage c.requires.legal)).0

pub renew_all-requires-clause-within : goal.renew_all-requires-clause-within
renew_all-requires-clause-within c =
    let core = c.args.core.now in
    (known_within core.topology c.args.stage (numbered_topology core.topology c.requires.stands.holds.sound) (restart_known core.topology core.journal.steps c.args.stage c.requires.legal)).1

pub renew_all-requires-clause-dead : goal.renew_all-requires-clause-dead
renew_all-requires-clause-dead c =
    let core = c.args.core.now in
    let s = c.args.stage in
    ap (λ xs. lives_by (slice_get xs s.0) s.0) c.deref.ensures.value ∙ (live_by core s c.requires.stands.holds ∙ restart_dead core.topology core.journal.steps s c.requires.legal)

pub renew_all-requires-clause-closed : goal.renew_all-requires-clause-closed
renew_all-requires-clause-closed c = λ d p h.
    let core = c.args.core.now in
    let s = c.args.stage in
    closed_rows core s d p c.requires.stands.holds (restart_known core.topology core.journal.steps s c.requires.legal) (restart_dead core.topology core.journal.steps s c.requires.legal)
    (sym (ap (λ xs. begins core.topology (live_upto (length core.topology.stages) xs) s d p) c.deref.ensures.value) ∙ h)

pub note_restart-requires-clause-within : goal.note_restart-requires-clause-within
note_restart-requires-clause-within c =
    let core = c.args.core.now in
    let x = c.requires.stands.holds in
    let w = known_within core.topology c.args.stage (numbered_topology core.topology x.sound) (restart_known core.topology core.journal.steps c.args.stage c.requires.legal) in
    omega (arith, x.fields.sized.stages, w.1)

pub note_restart-requires-clause-few : goal.note_restart-requires-clause-few
note_restart-requires-clause-few c =
    let core = c.args.core.now in
    let x = c.requires.stands.holds in
    omega (arith, incarnation_is core c.args.stage x, incarnation_room core.topology core.journal.steps c.args.stage x.sound x.legal)

pub note_time-requires-clause-there : goal.note_time-requires-clause-there
note_time-requires-clause-there c =
    let core = c.args.core.now in
    let known = restart_allowed core c.args.stage c.requires.stands.holds c.requires.legal in
    omega (arith, c.limit_of-limit.ensures, slice_get_within core.restarts.items (limit_of core.topology c.args.stage) known.limit known.at)

pub note_time-requires-clause-allowed : goal.note_time-requires-clause-allowed
note_time-requires-clause-allowed c =
    let core = c.args.core.now in
    let known = restart_allowed core c.args.stage c.requires.stands.holds c.requires.legal in
    subst (λ o. IfSome o (λ limit. 0 < limit.max)) (sym (ap (slice_get core.restarts.items) c.limit_of-limit.ensures ∙ known.at)) known.some

pub note_time-requires-clause-latest : goal.note_time-requires-clause-latest
note_time-requires-clause-latest c =
    let core = c.args.core.now in
    let known = restart_allowed core c.args.stage c.requires.stands.holds c.requires.legal in
    subst (λ o. IfSome o (λ limit. All (λ t. t ≤ core.totals.now) limit.times)) (sym (ap (slice_get core.restarts.items) c.limit_of-limit.ensures ∙ known.at)) known.latest

pub returns-clause-stands : goal.returns-clause-stands
returns-clause-stands c =
    let core = c.args.core.now in
    let s = c.args.stage in
    let x = c.requires.stands.holds in
    let known = restart_known core.topology core.journal.steps s c.requires.legal in
    let dead = restart_dead core.topology core.journal.steps s c.requires.legal in
    let core-new : Core = record core { journal = c.push_spare.new.self; stages = c.note_restart.new.rows; subs = c.renew_all.new.subs; restarts = c.note_time.new.limits; totals = record core.totals { quiet = 0 } } in
    let written = c.push_spare.ensures.written ∙ ap (λ (h : History). Restart s ∷ h) c.in_ok-reserve.ensures.same_steps in
    let are = subst (λ xs. AreRenewed core.topology (live_upto (length core.topology.stages) xs) s core.subs c.renew_all.new.subs) c.deref.ensures.value c.renew_all.ensures in
    let fields = restarted_fields core core.topology core.journal.steps s c.push_spare.new.self c.note_restart.new.rows c.renew_all.new.subs c.note_time.new.limits x.fields
    c.note_restart.ensures.rows c.note_restart.ensures.len (λ d p fed. pairs_after core s d p c.renew_all.new.subs x known dead are fed)
    c.note_time.ensures.limits
    (λ l limit at. (let known = c.note_time.ensures.remembered l (restart_times core.topology core.journal.steps l) limit (x.fields.restarts l) at in
    subst (λ k. Remembers limit (if k == l then core.totals.now ∷ restart_times core.topology core.journal.steps l else restart_times core.topology core.journal.steps l)) c.limit_of-limit.ensures known)) in
    let due = room_due core (Restart s ∷ core.journal.steps) c.reserve.new.self.spare c.push_spare.new.self.spare x c.in_ok-reserve.ensures.room c.push_spare.ensures.spare in
    let room = room_beside core core-new (Restart s) x c.requires.legal refl due refl refl refl refl refl refl refl in
    let holds = holds_after core core-new (Restart s) x refl written c.requires.legal fields room
    (log_kept core (Restart s) c.push_spare.new.self.acked x c.requires.legal refl refl (c.push_spare.ensures.same_acked ∙ c.in_ok-reserve.ensures.same_acked)) in
    record { holds = holds; unowed = unowed_after core-new core.topology (Restart s) core.journal.steps refl written refl }

pub returns-in_err-reserve-clause-stands : goal.returns-in_err-reserve-clause-stands
returns-in_err-reserve-clause-stands c = still_stands c.args.core.now c.reserve.new.self c.requires.stands c.reserve.ensures.same_steps c.reserve.ensures.spare c.reserve.ensures.same_acked
