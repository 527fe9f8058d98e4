use Rattle.std.proofs.Common.{ℕ, ◌∷◌, ◌∙◌, ap, refl, arith, length}
use Rattle.std.specs.Prelude.{slice_get, if◌then◌else◌, ◌==◌}
use Rattle.core_tables.specs.Rows.{post_at}
use Rattle.core_takes.specs.Takes.{out_of}
use Rattle.pipe_types.specs.declared.step.Step.TheVariants.{Child}
use Rattle.core_state.specs.declared.state.Core.{Core}
use Rattle.core_state.proofs.Rooms.{room_due, room_beside}
use Rattle.core_state.proofs.Steps.{holds_after, log_kept}
use Rattle.core_children.proofs.Starting.{again, again_started, started_fields}
use Rattle.core_children.proofs.starts.start_again.Goals as goal

pub put_child_out-requires-clause-row : goal.put_child_out-requires-clause-row
put_child_out-requires-clause-row c =
    let core = c.args.core.now in
    let x = c.requires.holds in
    let known = again core.topology core.journal.steps c.args.stage c.args.no c.args.slot x.sound x.legal c.requires.legal c.requires.again in
    omega (arith, known.within, x.fields.sized.stages, ap length c.deref.ensures.value)

pub put_child_out-requires-clause-post : goal.put_child_out-requires-clause-post
put_child_out-requires-clause-post c =
    let core = c.args.core.now in
    let x = c.requires.holds in
    let known = again core.topology core.journal.steps c.args.stage c.args.no c.args.slot x.sound x.legal c.requires.legal c.requires.again in
    omega (arith, known.within, known.low, x.fields.sized.posts)

pub returns-clause-holds : goal.returns-clause-holds
returns-clause-holds c =
    let core = c.args.core.now in
    let s = c.args.stage in
    let x = c.requires.holds in
    let known = again core.topology core.journal.steps s c.args.no c.args.slot x.sound x.legal c.requires.legal c.requires.again in
    let new : Core = record core { journal = c.push_spare.new.self; posts = c.put_child_out.new.posts; totals = record core.totals { quiet = 0 } } in
    let out = λ (i : ℕ). c.put_child_out.ensures.posts i ∙ ap (λ rows. if post_at s.0 c.args.slot == i then out_of (slice_get rows s.0) else slice_get core.posts.items i) c.deref.ensures.value in
    let started = again_started core s c.args.no c.args.slot c.put_child_out.new.posts x known out c.put_child_out.ensures.len in
    let fields = started_fields core core.topology core.journal.steps s c.args.no c.args.slot c.push_spare.new.self c.put_child_out.new.posts core.came core.inboxes core.chunks core.children core.places x.fields started in
    let room = room_beside core new (Child s c.args.no c.args.slot) x c.requires.legal refl (room_due core (Child s c.args.no c.args.slot ∷ core.journal.steps) core.journal.spare c.push_spare.new.self.spare x c.requires.spare c.push_spare.ensures.spare)
    refl refl refl refl refl refl refl in
    holds_after core new (Child s c.args.no c.args.slot) x refl c.push_spare.ensures.written c.requires.legal fields room
    (log_kept core (Child s c.args.no c.args.slot) c.push_spare.new.self.acked x c.requires.legal refl refl c.push_spare.ensures.same_acked)
