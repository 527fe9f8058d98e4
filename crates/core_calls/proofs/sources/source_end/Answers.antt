use Rattle.std.proofs.Common.{◌≤◌, ◌∷◌, ◌∙◌, ap, refl, arith}
use Rattle.pipe_types.specs.declared.step.Step.TheVariants.{SourceEnd}
use Rattle.pipe_model.specs.History.{History}
use Rattle.core_state.specs.declared.state.Core.{Core}
use Rattle.core_laws.specs.Due.{due_steps}
use Rattle.core_state.proofs.Rooms.{room_beside, end_room}
use Rattle.core_state.proofs.Steps.{holds_after, unowed_after, still_stands, log_kept}
use Rattle.core_state.proofs.Ending.{ended_fields, end_within}
use Rattle.stage_laws.proofs.Numbering.{numbered_topology}
use Rattle.core_calls.proofs.sources.source_end.Goals as goal

pub note_end-requires : goal.note_end-requires
note_end-requires c =
    let core = c.args.core.now in
    let x = c.requires.stands.holds in
    omega (arith, x.fields.sized.stages, end_within core.topology core.journal.steps c.args.stage c.args.how (numbered_topology core.topology x.sound) c.requires.legal)

pub answer_fetch-requires : goal.answer_fetch-requires
answer_fetch-requires c =
    let core = c.args.core.now in
    let x = c.requires.stands.holds in
    omega (arith, x.fields.sized.posts, end_within core.topology core.journal.steps c.args.stage c.args.how (numbered_topology core.topology x.sound) c.requires.legal)

pub push_spare-requires : goal.push_spare-requires
push_spare-requires c =
    let core = c.args.core.now in
    let x = c.requires.stands.holds in
    omega (arith, end_room core c.args.stage c.args.how c.make_end_room.new.journal.spare x c.requires.legal c.make_end_room.ensures.spare c.in_ok-make_end_room.ensures.room)

pub returns-clause-stands : goal.returns-clause-stands
returns-clause-stands c =
    let core = c.args.core.now in
    let x = c.requires.stands.holds in
    let core-new : Core = record core { journal = c.push_spare.new.self; stages = c.note_end.new.rows; posts = c.answer_fetch.new.posts; totals = record core.totals { quiet = 0 } } in
    let written = c.push_spare.ensures.written ∙ ap (λ (h : History). SourceEnd c.args.stage c.args.how ∷ h) c.make_end_room.ensures.same_steps in
    let fields = ended_fields core core.topology core.journal.steps c.args.stage c.args.how c.push_spare.new.self c.note_end.new.rows c.answer_fetch.new.posts x.fields c.note_end.ensures.rows c.note_end.ensures.len c.answer_fetch.ensures.posts c.answer_fetch.ensures.len in
    let due : due_steps core.topology (SourceEnd c.args.stage c.args.how ∷ core.journal.steps) ≤ c.push_spare.new.self.spare =
    omega (arith, end_room core c.args.stage c.args.how c.make_end_room.new.journal.spare x c.requires.legal c.make_end_room.ensures.spare c.in_ok-make_end_room.ensures.room, c.push_spare.ensures.spare) in
    let room = room_beside core core-new (SourceEnd c.args.stage c.args.how) x c.requires.legal refl due refl refl refl refl refl refl refl in
    let holds = holds_after core core-new (SourceEnd c.args.stage c.args.how) x refl written c.requires.legal fields room
    (log_kept core (SourceEnd c.args.stage c.args.how) c.push_spare.new.self.acked x c.requires.legal refl refl (c.push_spare.ensures.same_acked ∙ c.make_end_room.ensures.same_acked)) in
    record { holds = holds; unowed = unowed_after core-new core.topology (SourceEnd c.args.stage c.args.how) core.journal.steps refl written refl }

pub returns-in_err-make_end_room-clause-stands : goal.returns-in_err-make_end_room-clause-stands
returns-in_err-make_end_room-clause-stands c = still_stands c.args.core.now c.make_end_room.new.journal c.requires.stands c.make_end_room.ensures.same_steps c.make_end_room.ensures.spare c.make_end_room.ensures.same_acked
