use Rattle.std.proofs.Common.{ℕ, ◌∷◌, ◌++◌, take, ◌∙◌, ap, refl, arith}
use Rattle.std.specs.Prelude.{slice_get, if◌then◌else◌, ◌==◌}
use Rattle.pipe_types.specs.declared.step.Step.TheVariants.{Child}
use Rattle.pipe_model.specs.Flow.{units_on}
use Rattle.pipe_laws.proofs.Allowed.{child_facts}
use Rattle.core_tables.specs.Rows.{post_at}
use Rattle.core_tables.specs.Tables.{list_at, queue_at}
use Rattle.core_takes.specs.Takes.{out_of}
use Rattle.core_state.specs.declared.state.Core.{Core}
use Rattle.core_state.proofs.Rooms.{room_due, room_after}
use Rattle.core_state.proofs.Steps.{holds_after, log_kept}
use Rattle.core_children.proofs.Rooming.{child_queues}
use Rattle.core_children.proofs.Starting.{started_fields}
use Rattle.core_children.proofs.Fresh.{fresh_started, fresh_child, one_within}
use Rattle.core_children.proofs.starts.start_at.Goals as goal

pub run_all-requires : goal.run_all-requires
run_all-requires c =
    let x = c.requires.holds in
    let known = fresh_child c.args.core.now c.args.stage c.args.no c.args.slot x c.requires.free c.requires.legal in
    record { within = one_within c.args.no.0 _ known.some (omega (arith, known.few, x.fields.sized.places)) }

pub put_child_out-requires-clause-post : goal.put_child_out-requires-clause-post
put_child_out-requires-clause-post c =
    let x = c.requires.holds in
    let known = fresh_child c.args.core.now c.args.stage c.args.no c.args.slot x c.requires.free c.requires.legal in
    omega (arith, c.requires.within, known.low, x.fields.sized.posts)

pub note_came-requires : goal.note_came-requires
note_came-requires c =
    let x = c.requires.holds in
    let known = fresh_child c.args.core.now c.args.stage c.args.no c.args.slot x c.requires.free c.requires.legal in
    omega (arith, c.requires.within, known.low, x.fields.sized.came)

pub returns-clause-holds : goal.returns-clause-holds
returns-clause-holds c =
    let core = c.args.core.now in
    let s = c.args.stage in
    let slot = c.args.slot in
    let x = c.requires.holds in
    let allowed = c.requires.legal in
    let known = fresh_child core s c.args.no slot x c.requires.free allowed in
    let new : Core = record core { journal = c.push_spare.new.self; posts = c.put_child_out.new.posts; came = c.note_came.new.came; inboxes = c.start_chunk.new.inboxes; chunks = c.start_chunk.new.chunks; children = c.start_in.new.children; places = c.run_all.new.places; totals = record core.totals { quiet = 0 } } in
    let out = λ (i : ℕ). c.put_child_out.ensures.posts i ∙ ap (λ rows. if post_at s.0 slot == i then out_of (slice_get rows s.0) else slice_get core.posts.items i) c.deref.ensures.value in
    let started =
    fresh_started core s c.args.sub c.args.no slot c.put_child_out.new.posts c.note_came.new.came c.start_chunk.new.inboxes c.start_chunk.new.chunks c.start_in.new.children c.run_all.new.places x known c.requires.within c.requires.sub
    out c.put_child_out.ensures.len c.note_came.ensures.came c.note_came.ensures.len c.start_chunk.ensures.inboxes c.start_chunk.ensures.inboxes_len c.start_chunk.ensures.chunks c.start_chunk.ensures.chunks_len
    c.start_in.ensures.started c.start_in.ensures.len c.start_in.ensures.kept c.run_all.ensures.placed c.run_all.ensures.len in
    let fields =
    started_fields core core.topology core.journal.steps s c.args.no slot c.push_spare.new.self c.put_child_out.new.posts c.note_came.new.came c.start_chunk.new.inboxes c.start_chunk.new.chunks c.start_in.new.children c.run_all.new.places x.fields started in
    let room = room_after core new (Child s c.args.no slot) x allowed refl (room_due core (Child s c.args.no slot ∷ core.journal.steps) core.journal.spare c.push_spare.new.self.spare x c.requires.spare c.push_spare.ensures.spare)
    c.run_all.ensures.capacity refl refl refl
    (child_queues core s c.start_chunk.new.chunks.items (λ t. list_at core.chunks.items t ++ take 1 (units_on c.args.sub (queue_at core.inboxes.items t))) x (child_facts core.topology core.journal.steps s c.args.no slot allowed).role
    c.start_chunk.ensures.chunks) refl in
    holds_after core new (Child s c.args.no slot) x refl c.push_spare.ensures.written allowed fields room
    (log_kept core (Child s c.args.no slot) c.push_spare.new.self.acked x allowed refl refl c.push_spare.ensures.same_acked)
