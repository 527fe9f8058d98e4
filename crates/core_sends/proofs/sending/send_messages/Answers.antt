use Rattle.std.proofs.Common.{◌≡◌, ℕ, suc, ◌<◌, ◌≤◌, List, length, ◌∙◌, arith, refl, ap, sym, subst, All, drop, ◌++◌, [], ◌∷◌, Some, true}
use Rattle.std.specs.Prelude.{option_map, slice_get}
use Rattle.std.specs.Option.{option_copied}
use Rattle.std.specs.Vec.{with_item}
use Rattle.std.proofs.lemmas.Option.{slice_get_read}
use Rattle.pipe_types.specs.declared.room.Sent.{Sent}
use Rattle.pipe_types.specs.declared.step.Step.TheVariants.{Dispatch}
use Rattle.pipe_types.specs.Stages.{spec_of}
use Rattle.pipe_model.specs.Flow.{waiting, delivered_to, dispatched, batch, numbers_in as batch_numbers}
use Rattle.stage_subs.specs.Subs.{row_at, sent_more}
use Rattle.core_tables.specs.Tables.{queue_at, count_between}
use Rattle.core_state.specs.declared.state.Core.{Core}
use Rattle.core_state.specs.Stands.{Fields}
use Rattle.core_state.specs.Room.{Roomy}
use Rattle.core_state.proofs.Rooms.{room_after, room_due}
use Rattle.core_state.proofs.Steps.{holds_after, unowed_after, log_kept}
use Rattle.core_sends.proofs.Roomy.{left_queues}
use Rattle.core_sends.specs.Losing.{still_waits, numbers_in}
use Rattle.core_sends.specs.Rooms.{planned}
use Rattle.core_sends.proofs.AfterSending.{are_moved, sent_fields}
use Rattle.core_sends.proofs.Reached.{rest_waits, queue_within}
use Rattle.core_sends.proofs.Sendable.{dispatching, no_stage, units_within, units_numbered, units_live, units_asked, room_sent, queue_read, many_wait, units_named, sent_well}
use Rattle.core_sends.proofs.Sent.{planned_below}
use Rattle.queue_laws.proofs.Alone.{none_alone}
use Rattle.std.specs.List.{flat_map}
use Rattle.core_sends.proofs.sending.send_messages.Goals as goal

pub unreachable-requires : goal.unreachable-requires
unreachable-requires c =
    let core = c.args.core.now in
    no_stage core.topology core.journal.steps c.args.stage (dispatching core c.args.stage c.requires.holds c.requires.legal).law.live (sym c.find.ensures ∙ ap option_copied c.in_default.is)

pub index-requires : goal.index-requires
index-requires c =
    omega (arith, (dispatching c.args.core.now c.args.stage c.requires.holds c.requires.legal).within, c.requires.holds.fields.sized.waiting)

pub index_mut-requires : goal.index_mut-requires
index_mut-requires c =
    omega (arith, (dispatching c.args.core.now c.args.stage c.requires.holds c.requires.legal).within, c.requires.holds.fields.sized.waiting)

pub name_units-requires : goal.name_units-requires
name_units-requires c =
    let core = c.args.core.now in
    let long = many_wait core c.args.stage c.index.result.now c.requires.holds c.requires.legal c.index.ensures in
    record { within = subst (λ (us : List Sent). All (λ (d : Sent). d.unit < length c.index.result.now.items) us) (sym c.requires.planned) (subst (λ n. All (λ (d : Sent). d.unit < n) (planned core.topology core.journal.steps c.args.stage [])) (sym long) (planned_below core.topology core.journal.steps c.args.stage)) }

pub deliver_all-requires-clause-within : goal.deliver_all-requires-clause-within
deliver_all-requires-clause-within c =
    let core = c.args.core.now in
    let is = units_named core c.args.stage c.index.result.now c.args.sent.items c.deref-2.result.now c.requires.holds c.requires.legal c.index.ensures c.requires.planned (c.deref-2.ensures.value ∙ c.name_units.ensures) in
    units_within core.topology core.journal.steps c.deref-2.result.now (length core.inboxes.items) c.requires.holds.sound c.requires.holds.fields.sized.inboxes (sent_well core c.args.stage c.deref-2.result.now c.requires.holds c.requires.legal is)

pub deliver_all-requires-clause-room : goal.deliver_all-requires-clause-room
deliver_all-requires-clause-room c =
    room_sent c.args.core.now.inboxes.items (numbers_in c.index.result.now.items) c.args.sent.items c.deref-2.result.now (c.deref-2.ensures.value ∙ c.name_units.ensures) c.requires.room

pub count_all-requires-clause-live : goal.count_all-requires-clause-live
count_all-requires-clause-live c =
    let core = c.args.core.now in
    let is = units_named core c.args.stage c.index.result.now c.args.sent.items c.deref-3.result.now c.requires.holds c.requires.legal c.index.ensures c.requires.planned (c.deref-3.ensures.value ∙ c.name_units.ensures) in
    units_live core core.topology core.journal.steps c.deref-3.result.now c.requires.holds.fields (sent_well core c.args.stage c.deref-3.result.now c.requires.holds c.requires.legal is)

pub count_all-requires-clause-asked : goal.count_all-requires-clause-asked
count_all-requires-clause-asked c =
    let core = c.args.core.now in
    let is = units_named core c.args.stage c.index.result.now c.args.sent.items c.deref-3.result.now c.requires.holds c.requires.legal c.index.ensures c.requires.planned (c.deref-3.ensures.value ∙ c.name_units.ensures) in
    units_asked core core.topology core.journal.steps c.args.stage c.deref-3.result.now c.requires.holds.fields (dispatching core c.args.stage c.requires.holds c.requires.legal).law is (sent_well core c.args.stage c.deref-3.result.now c.requires.holds c.requires.legal is)

pub place_all-requires : goal.place_all-requires
place_all-requires c =
    let core = c.args.core.now in
    let is = units_named core c.args.stage c.index.result.now c.args.sent.items c.deref-4.result.now c.requires.holds c.requires.legal c.index.ensures c.requires.planned (c.deref-4.ensures.value ∙ c.name_units.ensures) in
    record { within = units_numbered core.topology core.journal.steps c.deref-4.result.now (length core.places.items) c.requires.holds.fields.sized.places (sent_well core c.args.stage c.deref-4.result.now c.requires.holds c.requires.legal is) }

pub leave-requires-clause-within : goal.leave-requires-clause-within
leave-requires-clause-within c =
    let core = c.args.core.now in
    let long = many_wait core c.args.stage c.index_mut.result.now c.requires.holds c.requires.legal c.index_mut.ensures.value in
    let below : All (λ (d : Sent). d.unit < length (waiting core.topology core.journal.steps c.args.stage)) c.deref.result.now = subst (All (λ (d : Sent). d.unit < length (waiting core.topology core.journal.steps c.args.stage))) (sym (c.deref.ensures.value ∙ c.requires.planned)) (planned_below core.topology core.journal.steps c.args.stage) in
    omega (arith, long, c.reach-first.ensures.least (length (waiting core.topology core.journal.steps c.args.stage)) below)

pub leave-requires-clause-rest : goal.leave-requires-clause-rest
leave-requires-clause-rest c =
    let core = c.args.core.now in
    let old = queue_read core c.args.stage c.index_mut.result.now c.requires.holds c.requires.legal c.index_mut.ensures.value in
    let is = units_named core c.args.stage c.index.result.now c.args.sent.items c.deref-4.result.now c.requires.holds c.requires.legal c.index.ensures c.requires.planned (c.deref-4.ensures.value ∙ c.name_units.ensures) in
    let moved = are_moved core core.topology core.journal.steps c.args.stage c.deref-4.result.now c.place_all.new.places.items c.requires.holds.fields is c.place_all.ensures.placed in
    let above : All (λ (d : Sent). d.unit < c.reach-first.result) (planned core.topology core.journal.steps c.args.stage []) = subst (All (λ (d : Sent). d.unit < c.reach-first.result)) (c.deref.ensures.value ∙ c.requires.planned) c.reach-first.ensures.above in
    subst (λ (us : List (ℕ × ℕ)). All (λ (unit : ℕ × ℕ). still_waits c.place_all.new.places.items c.args.stage unit.1 ≡ true) (drop c.reach-first.result us)) (sym old)
    (rest_waits core.topology core.journal.steps c.args.stage c.reach-first.result c.place_all.new.places.items c.requires.holds.sound c.requires.holds.legal c.requires.messages moved above)

pub leave-requires-clause-placed : goal.leave-requires-clause-placed
leave-requires-clause-placed c =
    let core = c.args.core.now in
    let old = queue_read core c.args.stage c.index_mut.result.now c.requires.holds c.requires.legal c.index_mut.ensures.value in
    subst (All (λ (unit : ℕ × ℕ). (1 ≤ unit.1) × (unit.1 ≤ length c.place_all.new.places.items))) (sym old)
    (queue_within core.topology core.journal.steps c.args.stage (length c.place_all.new.places.items) c.requires.holds.sound c.requires.holds.legal (c.place_all.ensures.len ∙ c.requires.holds.fields.sized.places))

pub returns-clause-stands : goal.returns-clause-stands
returns-clause-stands c =
    let core = c.args.core.now in
    let t = core.topology in
    let before = core.journal.steps in
    let s = c.args.stage in
    let x = c.requires.holds in
    let known = dispatching core s x c.requires.legal in
    let units = units_named core s c.index.result.now c.args.sent.items c.name_units.new.units.items x c.requires.legal c.index.ensures c.requires.planned c.name_units.ensures in
    let old = queue_read core s c.index_mut.result.now x c.requires.legal c.index_mut.ensures.value in
    let spec = c.in-Some.spec.now in
    let there : spec_of t s ≡ Some spec = sym c.in-Some.ensures in
    let core-new : Core = record core { journal = c.push_spare.new.self; subs = c.count_all.new.subs; waiting = with_item core.waiting s.0 c.leave.new.queue; inboxes = c.deliver_all.new.inboxes; places = c.leave.new.places; settled = c.leave.new.settled; totals = record core.totals { quiet = 0 } } in
    let fields : Fields core-new t (Dispatch s ∷ before) =
    sent_fields core t before s spec c.name_units.new.units.items c.index_mut.result.now.items c.len-mark.result c.push_spare.new.self c.count_all.new.subs (with_item core.waiting s.0 c.leave.new.queue) c.deliver_all.new.inboxes c.place_all.new.places.items c.leave.new.places c.leave.new.settled c.leave.new.queue
    x.fields x.sound x.legal c.requires.legal c.requires.messages known.law there known.within units old c.len-mark.ensures
    (record {
      counted = λ d p. c.count_all.ensures d p ∙ ap (λ us. option_map (sent_more (count_between us d p)) (row_at core.subs d p)) c.deref-3.ensures.value;
      queue = refl;
      kept = c.leave.ensures.queue;
      came = λ d. c.deliver_all.ensures.delivered d ∙ ap (λ us. queue_at core.inboxes.items d ++ delivered_to us d) c.deref-2.ensures.value;
      all_inboxes = c.deliver_all.ensures.len;
      moves = λ i. c.place_all.ensures.placed i ∙ ap (λ us. option_map (dispatched us [] [] s (suc i)) (slice_get core.places.items i)) c.deref-4.ensures.value;
      placed = c.leave.ensures.placed;
      all_places = c.leave.ensures.places_len ∙ c.place_all.ensures.len;
      marks = c.leave.ensures.marked;
      all_settled = c.leave.ensures.settled_len;
    }) in
    let rows : s.0 < length core.waiting.items = omega (arith, known.within, x.fields.sized.waiting) in
    let was : slice_get core.waiting.items s.0 ≡ Some c.index_mut.result.now = slice_get_read core.waiting.items (length core.waiting.items) s.0 c.index_mut.result.now refl rows c.index_mut.ensures.value in
    let room : Roomy core-new t (Dispatch s ∷ before) =
    room_after core core-new (Dispatch s) x c.requires.legal refl (room_due core (Dispatch s ∷ before) core.journal.spare c.push_spare.new.self.spare x c.requires.spare c.push_spare.ensures.spare)
    (c.leave.ensures.places_capacity ∙ c.place_all.ensures.capacity) c.leave.ensures.settled_capacity refl refl
    (λ u h. left_queues core s c.index_mut.result.now c.leave.new.queue u x rows was c.leave.ensures.room h) refl in
    let holds = holds_after core core-new (Dispatch s) x refl c.push_spare.ensures.written c.requires.legal fields room
    (log_kept core (Dispatch s) c.push_spare.new.self.acked x c.requires.legal (ap (λ bs. flat_map (λ b. batch_numbers (batch t before b)) bs) (none_alone t before s c.requires.messages)) refl c.push_spare.ensures.same_acked) in
    record { holds = holds; unowed = unowed_after core-new t (Dispatch s) before refl c.push_spare.ensures.written refl }
