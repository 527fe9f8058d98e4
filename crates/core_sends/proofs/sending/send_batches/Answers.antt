use Rattle.std.proofs.Common.{◌≡◌, ℕ, suc, ◌<◌, List, length, ◌∙◌, arith, refl, ap, sym, subst, All, drop, take, ◌++◌, [], ◌∷◌, true, Some}
use Rattle.std.specs.Prelude.{option_map, slice_get, filter, not, ◌&&◌}
use Rattle.std.specs.Vec.{with_item}
use Rattle.std.proofs.lemmas.Option.{slice_get_read}
use Rattle.pipe_types.specs.declared.room.Sent.{Sent}
use Rattle.pipe_types.specs.declared.step.Step.TheVariants.{Dispatch}
use Rattle.pipe_model.specs.Flow.{waiting, delivered_to, subs_of, alone, among}
use Rattle.message_ack.specs.Ends.{sent_in}
use Rattle.stage_subs.specs.Subs.{row_at, sent_more}
use Rattle.core_tables.specs.Tables.{queue_at, count_between}
use Rattle.core_laws.specs.Columns.{waiting_parts}
use Rattle.core_state.specs.declared.state.Core.{Core}
use Rattle.core_state.specs.Stands.{Fields}
use Rattle.core_state.specs.Room.{Roomy}
use Rattle.core_state.proofs.Rooms.{room_after, room_due}
use Rattle.core_state.proofs.Steps.{holds_after, unowed_after, log_by, log_fits}
use Rattle.core_sends.proofs.Roomy.{left_queues}
use Rattle.core_sends.specs.Batches.{lone_of, served_alone, IsEndable, not_sent, with_legs, messages_of, subs_at}
use Rattle.core_sends.specs.Losing.{numbers_in}
use Rattle.core_sends.specs.Rooms.{planned, served_first}
use Rattle.core_sends.proofs.AfterBatches.{are_begun, batch_fields, still_stands_with}
use Rattle.core_sends.proofs.BatchesSent.{units_closed, none_begun, none_noted, rest_unsent}
use Rattle.core_sends.proofs.Sendable.{dispatching, units_within, units_live, units_asked, room_sent, queue_read, many_wait, units_named, sent_well}
use Rattle.core_sends.proofs.Served.{served_within, lone_is, left_queue, queue_endable, placed_alike, marked_rows, served_is}
use Rattle.core_sends.proofs.Sent.{planned_below}
use Rattle.core_sends.proofs.LoneLog.{messages_alone, alone_acks, alone_rows}
use Rattle.core_laws.proofs.Lawful.{legal_after}
use Rattle.pipe_model.specs.History.{History}
use Rattle.pipe_journal.specs.Recorded.{AckLog}
use Rattle.core_sends.proofs.sending.send_batches.Goals as goal

pub index-requires : goal.index-requires
index-requires c =
    omega (arith, (dispatching c.args.core.now c.args.stage c.requires.stands.holds c.requires.legal).within, c.requires.stands.holds.fields.sized.waiting)

pub index_mut-requires : goal.index_mut-requires
index_mut-requires c =
    omega (arith, (dispatching c.args.core.now c.args.stage c.requires.stands.holds c.requires.legal).within, c.requires.stands.holds.fields.sized.waiting)

pub name_units-requires : goal.name_units-requires
name_units-requires c =
    let core = c.args.core.now in
    let long = many_wait core c.args.stage c.index.result.now c.requires.stands.holds c.requires.legal c.index.ensures in
    record { within = subst (λ (us : List Sent). All (λ (d : Sent). d.unit < length c.index.result.now.items) us) (sym c.requires.planned) (subst (λ n. All (λ (d : Sent). d.unit < n) (planned core.topology core.journal.steps c.args.stage [])) (sym long) (planned_below core.topology core.journal.steps c.args.stage)) }

pub deliver_all-requires-clause-within : goal.deliver_all-requires-clause-within
deliver_all-requires-clause-within c =
    let core = c.args.core.now in
    let is = units_named core c.args.stage c.index.result.now c.args.sent.items c.deref-4.result.now c.requires.stands.holds c.requires.legal c.index.ensures c.requires.planned (c.deref-4.ensures.value ∙ c.name_units.ensures) in
    units_within core.topology core.journal.steps c.deref-4.result.now (length core.inboxes.items) c.requires.stands.holds.sound c.requires.stands.holds.fields.sized.inboxes (sent_well core c.args.stage c.deref-4.result.now c.requires.stands.holds c.requires.legal is)

pub deliver_all-requires-clause-room : goal.deliver_all-requires-clause-room
deliver_all-requires-clause-room c =
    room_sent c.args.core.now.inboxes.items (numbers_in c.index.result.now.items) c.args.sent.items c.deref-4.result.now (c.deref-4.ensures.value ∙ c.name_units.ensures) c.requires.room

pub count_all-requires-clause-live : goal.count_all-requires-clause-live
count_all-requires-clause-live c =
    let core = c.args.core.now in
    let is = units_named core c.args.stage c.index.result.now c.args.sent.items c.deref-5.result.now c.requires.stands.holds c.requires.legal c.index.ensures c.requires.planned (c.deref-5.ensures.value ∙ c.name_units.ensures) in
    units_live core core.topology core.journal.steps c.deref-5.result.now c.requires.stands.holds.fields (sent_well core c.args.stage c.deref-5.result.now c.requires.stands.holds c.requires.legal is)

pub count_all-requires-clause-asked : goal.count_all-requires-clause-asked
count_all-requires-clause-asked c =
    let core = c.args.core.now in
    let is = units_named core c.args.stage c.index.result.now c.args.sent.items c.deref-5.result.now c.requires.stands.holds c.requires.legal c.index.ensures c.requires.planned (c.deref-5.ensures.value ∙ c.name_units.ensures) in
    units_asked core core.topology core.journal.steps c.args.stage c.deref-5.result.now c.requires.stands.holds.fields (dispatching core c.args.stage c.requires.stands.holds c.requires.legal).law is (sent_well core c.args.stage c.deref-5.result.now c.requires.stands.holds c.requires.legal is)

pub begin_all-requires-clause-within : goal.begin_all-requires-clause-within
begin_all-requires-clause-within c =
    let core = c.args.core.now in
    let is = units_named core c.args.stage c.index.result.now c.args.sent.items c.deref-2.result.now c.requires.stands.holds c.requires.legal c.index.ensures c.requires.planned (c.deref-2.ensures.value ∙ c.name_units.ensures) in
    units_closed core.topology core.journal.steps c.args.stage c.deref-2.result.now (length core.batches.items) c.requires.batches c.requires.stands.holds.fields.sized.batches is (sent_well core c.args.stage c.deref-2.result.now c.requires.stands.holds c.requires.legal is)

pub begin_all-requires-clause-not_begun : goal.begin_all-requires-clause-not_begun
begin_all-requires-clause-not_begun c =
    let core = c.args.core.now in
    let is = units_named core c.args.stage c.index.result.now c.args.sent.items c.deref-2.result.now c.requires.stands.holds c.requires.legal c.index.ensures c.requires.planned (c.deref-2.ensures.value ∙ c.name_units.ensures) in
    none_begun core core.topology core.journal.steps c.args.stage c.deref-2.result.now c.requires.stands.holds.fields c.requires.batches is

pub begin_all-requires-clause-not_noted : goal.begin_all-requires-clause-not_noted
begin_all-requires-clause-not_noted c =
    let core = c.args.core.now in
    let is = units_named core c.args.stage c.index.result.now c.args.sent.items c.deref-2.result.now c.requires.stands.holds c.requires.legal c.index.ensures c.requires.planned (c.deref-2.ensures.value ∙ c.name_units.ensures) in
    none_noted core core.topology core.journal.steps c.args.stage c.deref-2.result.now c.requires.stands.holds.fields c.requires.stands.holds.legal c.requires.batches is

pub index-requires-2 : goal.index-requires-2
index-requires-2 c =
    omega (arith, (dispatching c.args.core.now c.args.stage c.requires.stands.holds c.requires.legal).within, c.requires.stands.holds.fields.sized.waiting)

pub note_alone-requires-clause-served : goal.note_alone-requires-clause-served
note_alone-requires-clause-served c =
    let core = c.args.core.now in
    let long = many_wait core c.args.stage c.index-2.result.now c.requires.stands.holds c.requires.legal c.index-2.ensures in
    omega (arith, long, served_within core.topology core.journal.steps c.args.stage, c.requires.served)

pub note_alone-requires-clause-endable : goal.note_alone-requires-clause-endable
note_alone-requires-clause-endable c =
    let core = c.args.core.now in
    let old = queue_read core c.args.stage c.index-2.result.now c.requires.stands.holds c.requires.legal c.index-2.ensures in
    subst (All (IsEndable c.begin_all.new.batches.items (length c.deref-3.result.now))) (sym old)
    (queue_endable core core.topology core.journal.steps c.args.stage c.begin_all.new.batches.items (length c.deref-3.result.now) c.requires.stands.holds.fields c.requires.stands.holds.sound c.requires.stands.holds.legal c.requires.batches c.begin_all.ensures.len c.begin_all.ensures.closed
    (ap length c.deref-3.ensures.value ∙ c.requires.stands.holds.fields.sized.producers))

pub note_alone-requires-clause-room : goal.note_alone-requires-clause-room
note_alone-requires-clause-room c =
    let core = c.args.core.now in
    let t = core.topology in
    let before = core.journal.steps in
    let s = c.args.stage in
    let x = c.requires.stands.holds in
    let old = queue_read core s c.index-2.result.now x c.requires.legal c.index-2.ensures in
    let is = units_named core s c.index.result.now c.args.sent.items c.deref-2.result.now x c.requires.legal c.index.ensures c.requires.planned (c.deref-2.ensures.value ∙ c.name_units.ensures) in
    let begun = are_begun core t before s c.deref-2.result.now c.begin_all.new.legs is c.in_ok-begin_all.ensures.begun in
    let those : lone_of c.begin_all.new.legs (take c.args.served c.index-2.result.now.items) ≡ alone t before s =
    ap (λ k. lone_of c.begin_all.new.legs (take k c.index-2.result.now.items)) c.requires.served
    ∙ (ap (λ us. lone_of c.begin_all.new.legs (take (served_first t before s) us)) old ∙ lone_is core t before s c.begin_all.new.legs x.fields x.sound x.legal c.requires.batches begun) in
    let many = ap length (served_is core t before s c.begin_all.new.batches.items c.begin_all.new.legs (take c.args.served c.index-2.result.now.items) x.fields x.legal c.begin_all.ensures.closed those) in
    let fits = log_fits core (Dispatch s) (messages_alone t before s) x (alone_acks t before s x.sound x.legal (legal_after t before (Dispatch s) x.legal c.requires.legal)) in
    omega (arith, many, fits)

pub leave_batches-requires-clause-within : goal.leave_batches-requires-clause-within
leave_batches-requires-clause-within c =
    let core = c.args.core.now in
    let long = many_wait core c.args.stage c.index_mut.result.now c.requires.stands.holds c.requires.legal c.index_mut.ensures.value in
    let below : All (λ (d : Sent). d.unit < length (waiting core.topology core.journal.steps c.args.stage)) c.deref.result.now = subst (All (λ (d : Sent). d.unit < length (waiting core.topology core.journal.steps c.args.stage))) (sym (c.deref.ensures.value ∙ c.requires.planned)) (planned_below core.topology core.journal.steps c.args.stage) in
    omega (arith, long, c.reach-first.ensures.least (length (waiting core.topology core.journal.steps c.args.stage)) below)

pub leave_batches-requires-clause-rest : goal.leave_batches-requires-clause-rest
leave_batches-requires-clause-rest c =
    let core = c.args.core.now in
    let old = queue_read core c.args.stage c.index_mut.result.now c.requires.stands.holds c.requires.legal c.index_mut.ensures.value in
    let is = units_named core c.args.stage c.index.result.now c.args.sent.items c.deref-2.result.now c.requires.stands.holds c.requires.legal c.index.ensures c.requires.planned (c.deref-2.ensures.value ∙ c.name_units.ensures) in
    let begun = are_begun core core.topology core.journal.steps c.args.stage c.deref-2.result.now c.begin_all.new.legs is c.in_ok-begin_all.ensures.begun in
    let above : All (λ (d : Sent). d.unit < c.reach-first.result) (planned core.topology core.journal.steps c.args.stage []) = subst (All (λ (d : Sent). d.unit < c.reach-first.result)) (c.deref.ensures.value ∙ c.requires.planned) c.reach-first.ensures.above in
    subst (λ (us : List (ℕ × ℕ)). All (λ (unit : ℕ × ℕ). not_sent c.begin_all.new.legs unit.1 ≡ true) (drop c.reach-first.result us)) (sym old)
    (rest_unsent core core.topology core.journal.steps c.args.stage c.reach-first.result c.begin_all.new.legs c.requires.stands.holds.fields c.requires.stands.holds.sound c.requires.stands.holds.legal c.requires.batches begun above)

pub leave_batches-requires-clause-served : goal.leave_batches-requires-clause-served
leave_batches-requires-clause-served c =
    let core = c.args.core.now in
    let long = many_wait core c.args.stage c.index_mut.result.now c.requires.stands.holds c.requires.legal c.index_mut.ensures.value in
    omega (arith, long, served_within core.topology core.journal.steps c.args.stage, c.requires.served)

pub leave_batches-requires-clause-endable : goal.leave_batches-requires-clause-endable
leave_batches-requires-clause-endable c =
    let core = c.args.core.now in
    let old = queue_read core c.args.stage c.index_mut.result.now c.requires.stands.holds c.requires.legal c.index_mut.ensures.value in
    subst (All (IsEndable c.begin_all.new.batches.items (length core.places.items))) (sym old)
    (queue_endable core core.topology core.journal.steps c.args.stage c.begin_all.new.batches.items (length core.places.items) c.requires.stands.holds.fields c.requires.stands.holds.sound c.requires.stands.holds.legal c.requires.batches c.begin_all.ensures.len c.begin_all.ensures.closed c.requires.stands.holds.fields.sized.places)

pub leave_batches-requires-clause-settled : goal.leave_batches-requires-clause-settled
leave_batches-requires-clause-settled c = c.requires.stands.holds.fields.sized.settled ∙ sym c.requires.stands.holds.fields.sized.places

pub push_spare-requires : goal.push_spare-requires
push_spare-requires c = omega (arith, c.requires.spare, c.note_alone.ensures.same_spare)

pub returns-clause-appended : goal.returns-clause-appended
returns-clause-appended c = c.push_spare.ensures.written ∙ ap (λ (h : History). Dispatch c.args.stage ∷ h) c.note_alone.ensures.same_steps

pub returns-in_err-begin_all-clause-stands : goal.returns-in_err-begin_all-clause-stands
returns-in_err-begin_all-clause-stands c =
    still_stands_with c.args.core.now c.begin_all.new.batches c.begin_all.new.legs c.requires.stands c.begin_all.ensures.len c.begin_all.ensures.closed c.in_err-begin_all.ensures.subs_same c.in_err-begin_all.ensures.legs_same

pub returns-clause-stands : goal.returns-clause-stands
returns-clause-stands c =
    let core = c.args.core.now in
    let t = core.topology in
    let before = core.journal.steps in
    let s = c.args.stage in
    let x = c.requires.stands.holds in
    let known = dispatching core s x c.requires.legal in
    let units = units_named core s c.index.result.now c.args.sent.items c.name_units.new.units.items x c.requires.legal c.index.ensures c.requires.planned c.name_units.ensures in
    let old = queue_read core s c.index_mut.result.now x c.requires.legal c.index_mut.ensures.value in
    let core-new : Core = record core { journal = c.push_spare.new.self; subs = c.count_all.new.subs; waiting = with_item core.waiting s.0 c.leave_batches.new.queue; inboxes = c.deliver_all.new.inboxes; places = c.leave_batches.new.places; settled = c.leave_batches.new.settled; batches = c.begin_all.new.batches; legs = c.begin_all.new.legs; totals = record core.totals { quiet = 0 } } in
    let legs = c.begin_all.new.legs in
    let items : List (ℕ × ℕ) = c.index_mut.result.now.items in
    let first : ℕ = served_first t before s in
    let lone : List ℕ = lone_of legs (take c.args.served items) in
    let begun = are_begun core t before s c.deref-2.result.now legs (c.deref-2.ensures.value ∙ units) c.in_ok-begin_all.ensures.begun in
    let those : lone ≡ alone t before s =
    ap (λ k. lone_of legs (take k items)) c.requires.served ∙ (ap (λ us. lone_of legs (take first us)) old ∙ lone_is core t before s legs x.fields x.sound x.legal c.requires.batches begun) in
    let kept : c.leave_batches.new.queue.items ≡ filter (λ (unit : ℕ × ℕ). not_sent legs unit.1 && not (among lone unit.1)) items =
    c.leave_batches.ensures.queue
    ∙ (ap (λ k. filter (λ (unit : ℕ × ℕ). not_sent legs unit.1) (drop k items)) c.requires.served
    ∙ (ap (λ us. filter (λ (unit : ℕ × ℕ). not_sent legs unit.1) (drop first us)) old
    ∙ (left_queue core t before s legs x.fields x.sound x.legal c.requires.batches begun
    ∙ (ap (λ bs. filter (λ (unit : ℕ × ℕ). not_sent legs unit.1 && not (among bs unit.1)) (waiting_parts t before s)) (sym those)
    ∙ ap (filter (λ (unit : ℕ × ℕ). not_sent legs unit.1 && not (among lone unit.1))) (sym old))))) in
    let value = c.deref-2.ensures.value in
    let fields : Fields core-new t (Dispatch s ∷ before) =
    batch_fields core t before s c.name_units.new.units.items lone c.len-mark.result c.index_mut.result.now.items c.push_spare.new.self c.count_all.new.subs (with_item core.waiting s.0 c.leave_batches.new.queue) c.deliver_all.new.inboxes c.begin_all.new.batches c.begin_all.new.legs c.leave_batches.new.places c.leave_batches.new.settled c.leave_batches.new.queue
    x.fields x.sound x.legal c.requires.legal c.requires.batches known.law known.within units those c.len-mark.ensures old
    (record {
      counted = λ d p. c.count_all.ensures d p ∙ ap (λ us. option_map (sent_more (count_between us d p)) (row_at core.subs d p)) c.deref-5.ensures.value;
      queue = refl;
      kept = kept;
      placed = λ i. c.leave_batches.ensures.placed i ∙ placed_alike core.batches.items c.begin_all.new.batches.items c.begin_all.ensures.closed lone (suc i) (slice_get core.places.items i);
      all_places = c.leave_batches.ensures.places_len;
      marks = λ i. c.leave_batches.ensures.marked i ∙ marked_rows core.batches.items c.begin_all.new.batches.items c.begin_all.ensures.closed lone c.len-mark.result (suc i) (slice_get core.settled.items i);
      all_settled = c.leave_batches.ensures.settled_len;
      came = λ d. c.deliver_all.ensures.delivered d ∙ ap (λ us. queue_at core.inboxes.items d ++ delivered_to us d) c.deref-4.ensures.value;
      all_inboxes = c.deliver_all.ensures.len;
      begun = λ i. c.in_ok-begin_all.ensures.begun i ∙ ap (λ us. with_legs (messages_of core.batches.items (suc i)) (subs_of us (suc i)) (sent_in core.legs (suc i))) value;
      noted = λ i. c.in_ok-begin_all.ensures.noted i ∙ ap (λ us. option_map (λ vs. vs ++ subs_of us (suc i)) (subs_at core.batches.items i)) value;
      closed = c.in_ok-begin_all.ensures.closed;
      all_batches = c.in_ok-begin_all.ensures.len;
    }) in
    let rows : s.0 < length core.waiting.items = omega (arith, known.within, x.fields.sized.waiting) in
    let was : slice_get core.waiting.items s.0 ≡ Some c.index_mut.result.now = slice_get_read core.waiting.items (length core.waiting.items) s.0 c.index_mut.result.now refl rows c.index_mut.ensures.value in
    let room : Roomy core-new t (Dispatch s ∷ before) =
    room_after core core-new (Dispatch s) x c.requires.legal refl (room_due core (Dispatch s ∷ before) core.journal.spare c.push_spare.new.self.spare x c.requires.spare (omega (arith, c.push_spare.ensures.spare, c.note_alone.ensures.same_spare)))
    c.leave_batches.ensures.places_capacity c.leave_batches.ensures.settled_capacity refl refl
    (λ u h. left_queues core s c.index_mut.result.now c.leave_batches.new.queue u x rows was c.leave_batches.ensures.room h) refl in
    let written = c.push_spare.ensures.written ∙ ap (λ (h : History). Dispatch s ∷ h) c.note_alone.ensures.same_steps in
    let again = queue_read core s c.index-2.result.now x c.requires.legal c.index-2.ensures in
    let served = served_is core t before s c.begin_all.new.batches.items legs (take c.args.served c.index-2.result.now.items) x.fields x.legal c.begin_all.ensures.closed
    (ap (λ us. lone_of legs (take c.args.served us)) (again ∙ sym old) ∙ those) in
    let rows_are = alone_rows core core-new s c.deref-3.result.now c.len-mark.result (served_alone c.begin_all.new.batches.items legs (take c.args.served c.index-2.result.now.items)) x.legal fields c.deref-3.ensures.value c.len-mark.ensures served in
    let holds = holds_after core core-new (Dispatch s) x refl written c.requires.legal fields room
    (log_by core (Dispatch s) (messages_alone t before s) c.push_spare.new.self.acked x c.requires.legal refl (alone_acks t before s x.sound x.legal (legal_after t before (Dispatch s) x.legal c.requires.legal))
    (ap (λ (a : AckLog). a.rows) c.push_spare.ensures.same_acked ∙ (c.note_alone.ensures.noted ∙ ap (λ rs. core.journal.acked.rows ++ rs) rows_are))
    (ap (λ (a : AckLog). a.room) c.push_spare.ensures.same_acked ∙ c.note_alone.ensures.same_room)) in
    record { holds = holds; unowed = unowed_after core-new t (Dispatch s) before refl written refl }
