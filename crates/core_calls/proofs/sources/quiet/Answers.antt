use Rattle.std.proofs.Common.{suc, ◌≡◌, ◌∷◌, ◌∙◌, ◌+◌, ◌≤◌, ap, refl, arith, length}
use Rattle.pipe_types.specs.declared.step.Step.TheVariants.{Quiet}
use Rattle.pipe_model.specs.Legal.{quiet_row}
use Rattle.core_tables.specs.declared.rows.Totals.{Totals}
use Rattle.core_state.specs.declared.state.Core.{Core}
use Rattle.core_laws.specs.Due.{due_steps}
use Rattle.core_laws.proofs.Due.{quiet_due}
use Rattle.core_state.proofs.Rooms.{room_beside}
use Rattle.core_state.proofs.Steps.{holds_after, unowed_after, log_kept}
use Rattle.core_state.proofs.Ending.{rested_fields, quiet_within, quiet_few}
use Rattle.stage_laws.proofs.Numbering.{numbered_topology}
use Rattle.core_calls.proofs.sources.quiet.Goals as goal

pub note_rest-requires : goal.note_rest-requires
note_rest-requires c =
    let core = c.args.core.now in
    let x = c.requires.stands.holds in
    omega (arith, x.fields.sized.stages, quiet_within core.topology core.journal.steps c.args.stage (numbered_topology core.topology x.sound) c.requires.legal)

pub come_home-requires : goal.come_home-requires
come_home-requires c =
    let core = c.args.core.now in
    let x = c.requires.stands.holds in
    omega (arith, x.fields.sized.posts, quiet_within core.topology core.journal.steps c.args.stage (numbered_topology core.topology x.sound) c.requires.legal)

pub push_spare-requires : goal.push_spare-requires
push_spare-requires c =
    let core = c.args.core.now in
    let x = c.requires.stands.holds in
    omega (arith, quiet_due core.topology core.journal.steps c.args.stage x.sound x.legal c.requires.legal, x.room.steps)

pub returns-clause-stands : goal.returns-clause-stands
returns-clause-stands c =
    let core = c.args.core.now in
    let x = c.requires.stands.holds in
    let core-new : Core = record core { journal = c.push_spare.new.self; stages = c.note_rest.new.rows; posts = c.come_home.new.posts; totals = record core.totals { quiet = core.totals.quiet + 1 } } in
    let written = c.push_spare.ensures.written in
    let fields = rested_fields core core.topology core.journal.steps c.args.stage c.push_spare.new.self c.note_rest.new.rows c.come_home.new.posts x.fields c.note_rest.ensures.rows c.note_rest.ensures.len c.come_home.ensures.posts c.come_home.ensures.len in
    let due : due_steps core.topology (Quiet c.args.stage ∷ core.journal.steps) ≤ c.push_spare.new.self.spare =
    omega (arith, quiet_due core.topology core.journal.steps c.args.stage x.sound x.legal c.requires.legal, x.room.steps, c.push_spare.ensures.spare) in
    let room = room_beside core core-new (Quiet c.args.stage) x c.requires.legal refl due refl refl refl refl refl refl refl in
    let holds = holds_after core core-new (Quiet c.args.stage) x refl written c.requires.legal fields room
    (log_kept core (Quiet c.args.stage) c.push_spare.new.self.acked x c.requires.legal refl refl c.push_spare.ensures.same_acked) in
    record { holds = holds; unowed = unowed_after core-new core.topology (Quiet c.args.stage) core.journal.steps refl written refl }

pub overflow_add-core : goal.overflow_add-core
overflow_add-core c =
    let core = c.args.core.now in
    let same : core.totals.quiet ≡ quiet_row core.journal.steps = ap (λ (y : Totals). y.quiet) c.requires.stands.holds.fields.totals in
    let longer : c.len-len.result ≡ suc (length core.journal.steps) = c.len-len.ensures ∙ ap length c.push_spare.ensures.written in
    omega (arith, same, longer, quiet_few core.journal.steps, c.len-len.type_inv)
