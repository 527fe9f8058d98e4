-- The fields after a batch was answered.
use Rattle.std.proofs.Common.{◌≡◌, ◌≢◌, ℕ, zero, suc, set, ◌+◌, ◌-◌, ◌<◌, ◌≤◌, List, [], ◌∷◌, map, length, Bool, true, false, refl, ap, sym, ◌∙◌, Some, None, Option, arith, subst, inl, inr, get_or, ◌++◌, All}
use Rattle.std.specs.Prelude.{slice_get, option_map, if◌then◌else◌, ◌==◌, ◌&&◌, ◌||◌, ◌⊎◌, is_some, IfSome, unwrap_or, position}
use Rattle.std.proofs.lemmas.Bool.{eqb-true, ne_eqb, false_from_ne_true}
use Rattle.std.proofs.lemmas.Option.{slice_get_read}
use Rattle.std.specs.declared.alloc.Global.{Global}
use Rattle.std.specs.declared.vec.Vec.{Vec}
use Rattle.pipe_types.specs.declared.numbers.StageNo.{StageNo}
use Rattle.pipe_types.specs.declared.numbers.SubNo.{SubNo}
use Rattle.pipe_types.specs.declared.message.Place.{Place}
use Rattle.pipe_types.specs.declared.message.Place.TheVariants.{InBatch}
use Rattle.pipe_types.specs.declared.message.Outcome.{Outcome}
use Rattle.pipe_types.specs.declared.message.BatchEnd.{BatchEnd}
use Rattle.pipe_types.specs.declared.message.BatchEnd.TheVariants.{Outcomes}
use Rattle.pipe_types.specs.declared.topology.Topology.{Topology}
use Rattle.pipe_types.specs.declared.step.Step.TheVariants.{Wrote, Close}
use Rattle.pipe_types.specs.Numbers.{same_stage, same_sub, batch_no}
use Rattle.pipe_types.specs.Sound.{IsSound}
use Rattle.pipe_types.specs.Stages.{spec_of}
use Rattle.pipe_model.specs.History.{History, accepted, closed}
use Rattle.pipe_model.specs.Posts.{last_take}
use Rattle.pipe_model.specs.Lives.{generation, current_sub}
use Rattle.pipe_model.specs.Batches.{Batch, Sent, Leg, is_settled, settled_as, lost_leg, failed_leg, on_legs, leg_answered, batch_on_legs}
use Rattle.pipe_model.specs.Content.{content, key_in}
use Rattle.pipe_model.specs.Flow.{place, batch, sent, among, first_in, change_place, closing, view_of, is_empty, numbers_in}
use Rattle.pipe_model.specs.Ledger.{handled, taken_on}
use Rattle.pipe_model.specs.Legal.{allows, gathered_at, ends_in_flush}
use Rattle.pipe_model.specs.Moves.{is_final}
use Rattle.pipe_model.specs.Standing.{gathered_in, of_key}
use Rattle.pipe_model.specs.Work.{taken_units}
use Rattle.pipe_model.specs.Taken.{closed_as}
use Rattle.pipe_laws.proofs.Tests.{same_sub-self}
use Rattle.pipe_laws.proofs.Lists.{each_always, each_weaker, each_among}
use Rattle.pipe_laws.proofs.Accepted.{placed_accepted}
use Rattle.pipe_laws.proofs.Handled.{handled_within}
use Rattle.pipe_laws.proofs.Places.{settled_final}
use Rattle.pipe_laws.proofs.Settled.{batch_closed}
use Rattle.queue_laws.proofs.Laws.{waiting_law, inbox_law, gathered_law}
use Rattle.queue_laws.proofs.Writes.{wrote_others}
use Rattle.stage_laws.proofs.Laws.{running_law}
use Rattle.stage_laws.proofs.Settling.{wrote_places, settled_by}
use Rattle.stage_subs.specs.Pairs.{PairRow}
use Rattle.stage_subs.specs.Subs.{row_of, row_at, is_pair, handled_more, IsChanged}
use Rattle.stage_subs.specs.Ledger.{ledger_row}
use Rattle.message_ack.specs.declared.legs.Settled.{Settled}
use Rattle.message_ack.specs.declared.legs.LegEnd.TheVariants.{Answered as AnsweredEnd}
use Rattle.message_ack.specs.Ends.{Ends, ends_of, sent_in, with_end, IsSettledBy, HasOutcomes}
use Rattle.pipe_journal.specs.Recorded.{Recorded}
use Rattle.core_tables.specs.declared.rows.Totals.{Totals}
use Rattle.core_tables.specs.declared.rows.PostRow.{PostRow}
use Rattle.core_tables.specs.declared.rows.StageRow.{StageRow}
use Rattle.core_tables.specs.declared.rows.BatchRow.{BatchRow}
use Rattle.core_tables.specs.Rows.{post_at, home}
use Rattle.core_tables.proofs.Tables.{same_or_other}
use Rattle.core_laws.specs.Columns.{open_of, keys_of, open_batches, part_of, post_row, stage_row, mark, ends_in_progress, closed_numbers, sent_on}
use Rattle.core_laws.proofs.Marks.{mark_is, open_unsettled}
use Rattle.core_laws.proofs.Lawful.{each_all}
use Rattle.core_state.proofs.Ending.{post_home}
use Rattle.core_state.specs.declared.state.Core.{Core}
use Rattle.core_state.specs.Stands.{Fields, Stands, closed_seen, Holds}
use Rattle.core_state.proofs.Reading.{some_at}
use Rattle.core_batches.specs.Rows.{handled_on}
use Rattle.core_state.specs.Settles.{ended_by, marked_by, AreNumbers}
use Rattle.core_batches.specs.Writes.{leg_place}
use Rattle.core_batches.proofs.Limits.{flip}
use Rattle.core_batches.proofs.Opens.{each_same, without}
use Rattle.core_batches.proofs.Writing.{IsWriting, Written, writing, ends_put, end_none, in_progress_as, open_at, took_before, write_within}
use Rattle.core_state.proofs.Settling.{ended_is, pairs_apart}
use Rattle.core_state.proofs.Parts.{Part, ChunksAre, EndsLen, InboxesAre, LegsAre, OpensAre, PlacesAre, PlacesLen, PostsAre, PostsLen, SettledAre, SettledLen, SubsAre, TotalsAre, WaitingAre, Says, unchanged, fields_of}
use Rattle.core_laws.proofs.Acked.{MayAck, may_ack}
use Rattle.core_state.proofs.Steps.{log_fits}
use Rattle.pipe_model.specs.Acknowledgements.{is_acked}
use Rattle.pipe_journal.specs.declared.acked.AckRow.{AckRow}
use Rattle.std.specs.List.{flat_map, filter_map}
use Rattle.std.proofs.lemmas.List.{append-nil}

-- Open batches

keys_still : (before : History) (s : StageNo) (bytes : ℕ) (os : List Outcome) (ns : List ℕ) → keys_of (Wrote s bytes (Outcomes os) ∷ before) ns ≡ keys_of before ns
keys_still before s bytes os [] = refl
keys_still before s bytes os (n ∷ ns) = ap (λ ks. key_in (content before n) ∷ without (key_in (content before n)) ks) (keys_still before s bytes os ns)

flush_still : (before : History) (s : StageNo) (bytes : ℕ) (os : List Outcome) (xs : List ℕ) → ends_in_flush (Wrote s bytes (Outcomes os) ∷ before) xs ≡ ends_in_flush before xs
flush_still before s bytes os [] = refl
flush_still before s bytes os (x ∷ xs) = refl

opens_still : (before : History) (s : StageNo) (bytes : ℕ) (os : List Outcome) (ns : List ℕ) → open_batches (Wrote s bytes (Outcomes os) ∷ before) ns ≡ open_batches before ns
opens_still before s bytes os ns =
    ap (map (open_of (Wrote s bytes (Outcomes os) ∷ before) ns)) (keys_still before s bytes os ns)
    ∙ each_same (open_of (Wrote s bytes (Outcomes os) ∷ before) ns) (open_of before ns) (keys_of before ns)
    (each_always (λ key. open_of (Wrote s bytes (Outcomes os) ∷ before) ns key ≡ open_of before ns key)
    (λ key. ap (λ f. record { key = key; numbers = of_key before key ns; flush = f; opened = gathered_at before (first_in (of_key before key ns)) }) (flush_still before s bytes os (of_key before key ns))) (keys_of before ns))

-- What is counted

counted : (a b d : Bool) (row : PairRow) → (if a && b then Some (if d then handled_more 1 row else row) else Some row)
    ≡ Some (record row { counts = record row.counts { handled = row.counts.handled + (if a && (b && d) then 1 else 0) } })
counted true true true row = refl
counted true true false row = none row
  where
    none : (row : PairRow) → Some row ≡ Some (record row { counts = record row.counts { handled = row.counts.handled + 0 } })
    none row = ap (λ h. Some (record row { counts = record row.counts { handled = h } })) (plus row.counts.handled)
      where
        plus : (h : ℕ) → h ≡ h + 0
        plus h = omega arith
counted true false d row = ap (λ h. Some (record row { counts = record row.counts { handled = h } })) (plus row.counts.handled)
  where
    plus : (h : ℕ) → h ≡ h + 0
    plus h = omega arith
counted false b d row = ap (λ h. Some (record row { counts = record row.counts { handled = h } })) (plus row.counts.handled)
  where
    plus : (h : ℕ) → h ≡ h + 0
    plus h = omega arith

-- the same subscription, whichever of the two is named first
pair_flip : (u v : SubNo) → (same_stage v.consumer u.consumer && (same_stage v.producer u.producer && v.generation == u.generation)) ≡ same_sub u v
pair_flip u v = λ i. flip v.consumer.0 u.consumer.0 i && (flip v.producer.0 u.producer.0 i && flip v.generation u.generation i)

handled_row : (topology : Topology) (before : History) (s : StageNo) (bytes : ℕ) (os : List Outcome) (u : SubNo) (old new : List (Option PairRow)) (c p : StageNo) → last_take before s ≡ Some (u, 1)
    → row_at old c p ≡ Some (ledger_row topology before c p) → IsChanged old new u (handled_on u.generation 1) → row_at new c p ≡ Some (ledger_row topology (Wrote s bytes (Outcomes os) ∷ before) c p)
handled_row topology before s bytes os u old new c p last was changed =
    let v = current_sub topology before c p in
    let row = ledger_row topology before c p in
    changed.rows c p
    ∙ (ap (λ o. if is_pair u.consumer u.producer c p then option_map (handled_on u.generation 1) o else o) was
    ∙ (counted (same_stage c u.consumer) (same_stage p u.producer) (generation topology before c p == u.generation) row
    ∙ (ap (λ b. Some (record row { counts = record row.counts { handled = handled topology before v + (if b then 1 else 0) } })) (pair_flip u v)
    ∙ ap (λ o. Some (record row { counts = record row.counts { handled = handled topology before v + taken_on o v } })) (sym last))))

pub written_room : (core : Core) (topology : Topology) (before : History) (s : StageNo) (bytes : ℕ) (os : List Outcome) (u : SubNo) (b i : ℕ) (ms : List ℕ) (legs : List Leg) → Fields core topology before
    → IsWriting topology before s bytes os u b i ms legs → IfSome (row_of core.subs u) (λ row. row.generation ≡ u.generation → row.counts.handled + 1 ≤ row.counts.arrived)
written_room core topology before s bytes os u b i ms legs x g =
    subst (λ (o : Option PairRow). IfSome o (λ row. row.generation ≡ u.generation → row.counts.handled + 1 ≤ row.counts.arrived)) (sym (x.subs u.consumer u.producer g.fed))
    (λ same.
    let is : current_sub topology before u.consumer u.producer ≡ u = ap (λ k. record { consumer = u.consumer; producer = u.producer; generation = k }) same in
    let more : handled topology (Wrote s bytes (Outcomes os) ∷ before) u ≡ handled topology before u + 1 =
    ap (λ o. handled topology before u + taken_on o u) g.last ∙ ap (λ c. handled topology before u + (if c then 1 else 0)) (same_sub-self u) in
    let room : handled topology before u + 1 ≤ sent topology before u = omega (arith, more, handled_within topology (Wrote s bytes (Outcomes os) ∷ before) u g.legal) in
    subst (λ (v : SubNo). handled topology before v + 1 ≤ sent topology before v) (sym is) room)

-- Legs

legs_written : (topology : Topology) (before : History) (s : StageNo) (bytes : ℕ) (os : List Outcome) (u : SubNo) (b i : ℕ) (ms : List ℕ) (legs : List Leg) (old new : List (ℕ × Ends)) (settled : Option Settled) (n : ℕ)
    → IsWriting topology before s bytes os u b i ms legs → is_some settled ≡ is_settled (on_legs (leg_answered s os) legs)
    → sent_in new n ≡ (if n == b then (if is_some settled then None else with_end (sent_in old n) i (AnsweredEnd os)) else sent_in old n)
    → sent_in old n ≡ ends_in_progress (batch topology before n) → sent_in new n ≡ ends_in_progress (batch topology (Wrote s bytes (Outcomes os) ∷ before) n)
legs_written topology before s bytes os u b i ms legs old new settled n g last kept was = kept ∙ by (same_or_other n b)
  where
    after : batch topology (Wrote s bytes (Outcomes os) ∷ before) b ≡ Some (record { numbers = ms; place = Sent (on_legs (leg_answered s os) legs) })
    after = ap (option_map (λ (x : Batch). change_place x (batch_on_legs (leg_answered s os) x.place))) g.batch_is

    by : (((n == b) ≡ true) × (n ≡ b)) ⊎ (((n == b) ≡ false) × (n ≢ b))
        → (if n == b then (if is_some settled then None else with_end (sent_in old n) i (AnsweredEnd os)) else sent_in old n) ≡ ends_in_progress (batch topology (Wrote s bytes (Outcomes os) ∷ before) n)
    by (inl same) =
        let had : sent_in old n ≡ Some (record { messages = length ms; ends = ends_of legs }) =
        was ∙ (ap (λ k. ends_in_progress (batch topology before k)) same.1 ∙ in_progress_as topology before s bytes os u b i ms legs g) in
        ap (λ c. if c then (if is_some settled then None else with_end (sent_in old n) i (AnsweredEnd os)) else sent_in old n) same.0
        ∙ (ap (λ o. if is_some settled then None else with_end o i (AnsweredEnd os)) had
        ∙ (ap (λ es. if is_some settled then None else Some (record { messages = length ms; ends = es })) (sym (ends_put s os u legs i g.here g.once g.leg))
        ∙ (ap (λ c. if c then None else Some (record { messages = length ms; ends = ends_of (on_legs (leg_answered s os) legs) })) last
        ∙ (sym (ap ends_in_progress after) ∙ ap (λ k. ends_in_progress (batch topology (Wrote s bytes (Outcomes os) ∷ before) k)) (sym same.1)))))
    by (inr other) =
        let free : among (taken_units topology before s) n ≡ false = ap (λ us. among us n) g.took ∙ ap (λ c. c || false) (false_from_ne_true (b == n) (λ e. other.1 (sym (eqb-true b n e)))) in
        ap (λ c. if c then (if is_some settled then None else with_end (sent_in old n) i (AnsweredEnd os)) else sent_in old n) other.0
        ∙ (was ∙ ap ends_in_progress (sym (wrote_others topology before s bytes os n g.legal free)))

-- Marks

marked_written : (topology : Topology) (before : History) (s : StageNo) (bytes : ℕ) (os : List Outcome) (u : SubNo) (b i : ℕ) (ms : List ℕ) (legs : List Leg) (settled : Option Settled) (n old : ℕ)
    → IsWriting topology before s bytes os u b i ms legs → is_some settled ≡ is_settled (on_legs (leg_answered s os) legs) → old ≡ mark topology before n
    → marked_by settled ms (length before) n old ≡ mark topology (Wrote s bytes (Outcomes os) ∷ before) n
marked_written topology before s bytes os u b i ms legs settled n old g last was = by (among ms n) refl settled last
  where
    now : List Leg
    now = on_legs (leg_answered s os) legs

    after : place topology (Wrote s bytes (Outcomes os) ∷ before) n ≡ option_map (settled_by ms (on_legs (leg_answered s os) legs) n) (place topology before n)
    after = wrote_places topology before s bytes os b ms legs g.legal g.took g.batch_is (open_at legs i u g.leg) n

    unsettled : is_final (place topology before n) ≡ false → old ≡ 0
    unsettled open_yet = was ∙ (mark_is topology before n ∙ open_unsettled topology before n open_yet)

    put_together : (f q : Bool) (x : ℕ) → is_final (place topology before n) ≡ f → is_final (place topology (Wrote s bytes (Outcomes os) ∷ before) n) ≡ q → x ≡ (if f then mark topology before n else (if q then length before else 0))
        → x ≡ mark topology (Wrote s bytes (Outcomes os) ∷ before) n
    put_together f q x e k h =
        h
        ∙ (sym (ap (λ c. if c then mark topology before n else (if q then length before else 0)) e)
        ∙ sym (ap (λ c. if is_final (place topology before n) then mark topology before n else (if c then length before else 0)) k))

    by : (a : Bool) → among ms n ≡ a → (settled : Option Settled) → is_some settled ≡ is_settled (on_legs (leg_answered s os) legs) → marked_by settled ms (length before) n old ≡ mark topology (Wrote s bytes (Outcomes os) ∷ before) n
    by true e None last =
        let here : place topology before n ≡ Some (InBatch (batch_no b)) = each_among (λ k. place topology before k ≡ Some (InBatch (batch_no b))) ms n g.inside e in
        let still : place topology (Wrote s bytes (Outcomes os) ∷ before) n ≡ Some (InBatch (batch_no b)) =
        after
        ∙ (ap (option_map (settled_by ms (on_legs (leg_answered s os) legs) n)) here
        ∙ ap (λ c. Some (if c && among ms n then settled_as (lost_leg (on_legs (leg_answered s os) legs)) (failed_leg (on_legs (leg_answered s os) legs) (unwrap_or (position (λ m. m == n) ms) 0)) else InBatch (batch_no b))) (sym last)) in
        put_together false false old (ap is_final here) (ap is_final still) (unsettled (ap is_final here))
    by true e (Some x) last =
        let here : place topology before n ≡ Some (InBatch (batch_no b)) = each_among (λ k. place topology before k ≡ Some (InBatch (batch_no b))) ms n g.inside e in
        let ended : place topology (Wrote s bytes (Outcomes os) ∷ before) n ≡ Some (settled_as (lost_leg (on_legs (leg_answered s os) legs)) (failed_leg (on_legs (leg_answered s os) legs) (unwrap_or (position (λ m. m == n) ms) 0))) =
        after
        ∙ (ap (option_map (settled_by ms (on_legs (leg_answered s os) legs) n)) here
        ∙ (ap (λ c. Some (if c && among ms n then settled_as (lost_leg (on_legs (leg_answered s os) legs)) (failed_leg (on_legs (leg_answered s os) legs) (unwrap_or (position (λ m. m == n) ms) 0)) else InBatch (batch_no b))) (sym last)
        ∙ ap (λ c. Some (if c then settled_as (lost_leg (on_legs (leg_answered s os) legs)) (failed_leg (on_legs (leg_answered s os) legs) (unwrap_or (position (λ m. m == n) ms) 0)) else InBatch (batch_no b))) e)) in
        put_together false true (if among ms n then length before else old) (ap is_final here) (ap is_final ended ∙ settled_final (on_legs (leg_answered s os) legs) (unwrap_or (position (λ m. m == n) ms) 0))
        (ap (λ c. if c then length before else old) e)
    by false e settled last =
        let still : place topology (Wrote s bytes (Outcomes os) ∷ before) n ≡ place topology before n = after ∙ untouched (place topology before n) in
        kept settled ∙ split (is_final (place topology before n)) refl still
      where
        kept : (settled : Option Settled) → marked_by settled ms (length before) n old ≡ old
        kept None = refl
        kept (Some x) = ap (λ c. if c then length before else old) e

        untouched : (o : Option Place) → option_map (settled_by ms (on_legs (leg_answered s os) legs) n) o ≡ o
        untouched None = refl
        untouched (Some p) =
            ap (λ c. Some (if is_settled (on_legs (leg_answered s os) legs) && c then settled_as (lost_leg (on_legs (leg_answered s os) legs)) (failed_leg (on_legs (leg_answered s os) legs) (unwrap_or (position (λ m. m == n) ms) 0)) else p)) e
            ∙ none (is_settled (on_legs (leg_answered s os) legs))
          where
            none : (c : Bool) → Some (if c && false then settled_as (lost_leg (on_legs (leg_answered s os) legs)) (failed_leg (on_legs (leg_answered s os) legs) (unwrap_or (position (λ m. m == n) ms) 0)) else p) ≡ Some p
            none true = refl
            none false = refl

        split : (f : Bool) → is_final (place topology before n) ≡ f → place topology (Wrote s bytes (Outcomes os) ∷ before) n ≡ place topology before n → old ≡ mark topology (Wrote s bytes (Outcomes os) ∷ before) n
        split true f still = put_together true true old f (ap is_final still ∙ f) was
        split false f still = put_together false false old f (ap is_final still ∙ f) (unsettled f)

-- the fields after a batch was answered
pub written_fields : (core : Core) (topology : Topology) (before : History) (s : StageNo) (bytes : ℕ) (os : List Outcome) (u : SubNo) (b i : ℕ) (ms : List ℕ) (legs : List Leg) (settled : Option Settled)
    (j : Recorded) (posts : Vec PostRow Global) (places : Vec Place Global) (marks : Vec ℕ Global) (subs : List (Option PairRow)) (table : List (ℕ × Ends)) (e : Vec (Vec Outcome Global) Global)
    → IsSound topology → Fields core topology before → IsWriting topology before s bytes os u b i ms legs
    → is_some settled ≡ is_settled (on_legs (leg_answered s os) legs) → ((x : Settled) → settled ≡ Some x → IsSettledBy (length ms) (on_legs (leg_answered s os) legs) x)
    → ((n : ℕ) → sent_in table n ≡ (if n == b then (if is_some settled then None else with_end (sent_in core.legs n) i (AnsweredEnd os)) else sent_in core.legs n))
    → ((k : ℕ) → slice_get posts.items k ≡ (if post_at s.0 0 == k then option_map home (slice_get core.posts.items k) else slice_get core.posts.items k)) → length posts.items ≡ length core.posts.items
    → ((k : ℕ) → slice_get places.items k ≡ option_map (ended_by settled ms (suc k)) (slice_get core.places.items k)) → length places.items ≡ length core.places.items
    → ((k : ℕ) → slice_get marks.items k ≡ option_map (marked_by settled ms (length before) (suc k)) (slice_get core.settled.items k)) → length marks.items ≡ length core.settled.items
    → IsChanged core.subs subs u (handled_on u.generation 1) → length e.items ≡ length core.ends.items
    → Fields (record core { journal = j; posts = posts; places = places; settled = marks; subs = subs; legs = table; ends = e; totals = record core.totals { quiet = 0 } }) topology (Wrote s bytes (Outcomes os) ∷ before)
written_fields core topology before s bytes os u b i ms legs settled j posts places marks subs table e sound x g last each kept homed len-posts placed len-places marking len-marks counts len-ends = fields_of says
  where
    alike : (n : ℕ) (o : Option Place) → option_map (ended_by settled ms n) o ≡ option_map (settled_by ms (on_legs (leg_answered s os) legs) n) o
    alike n None = refl
    alike n (Some p) = ap Some (ended_is ms (on_legs (leg_answered s os) legs) settled n p last each)

    says : (it : Part) → Says it (record core { journal = j; posts = posts; places = places; settled = marks; subs = subs; legs = table; ends = e; totals = record core.totals { quiet = 0 } }) topology (Wrote s bytes (Outcomes os) ∷ before)
    says PostsLen = len-posts ∙ x.sized.posts
    says PlacesLen = len-places ∙ x.sized.places
    says SettledLen = len-marks ∙ x.sized.settled
    says EndsLen = len-ends ∙ x.sized.ends
    says PostsAre = λ t slot within low. homed (post_at t.0 slot) ∙ post_home core.posts.items s t slot (post_row before t slot) low (x.posts t slot within low)
    says SubsAre = λ c p fed. handled_row topology before s bytes os u core.subs subs c p g.last (x.subs c p fed) counts
    says WaitingAre = λ t. x.waiting t ∙ ap (map {B = ℕ × ℕ} (λ n. (part_of topology before (spec_of topology t) n, n))) (sym (waiting_law topology before (Wrote s bytes (Outcomes os)) t sound g.legal))
    says InboxesAre = λ t. x.inboxes t ∙ sym (inbox_law topology before (Wrote s bytes (Outcomes os)) t sound g.legal)
    says ChunksAre = λ t. x.chunks t ∙ sym (running_law topology before (Wrote s bytes (Outcomes os)) t sound g.legal)
    says OpensAre = λ t.
        x.opens t
        ∙ (ap (open_batches before) (sym (gathered_law topology before (Wrote s bytes (Outcomes os)) t g.legal))
        ∙ sym (opens_still before s bytes os (gathered_in topology (Wrote s bytes (Outcomes os) ∷ before) t)))
    says PlacesAre = λ k.
        placed k
        ∙ (ap (option_map (ended_by settled ms (suc k))) (x.places k)
        ∙ (alike (suc k) (place topology before (suc k)) ∙ sym (wrote_places topology before s bytes os b ms legs g.legal g.took g.batch_is (open_at legs i u g.leg) (suc k))))
    says SettledAre = λ k below.
        marking k
        ∙ (ap (option_map (marked_by settled ms (length before) (suc k))) (x.settled k below)
        ∙ ap Some (marked_written topology before s bytes os u b i ms legs settled (suc k) (mark topology before (suc k)) g last refl))
    says LegsAre = λ k. legs_written topology before s bytes os u b i ms legs core.legs table settled (suc k) g last (kept (suc k)) (x.legs k)
    says TotalsAre = ap (λ (y : Totals). record y { quiet = 0 }) x.totals
    says it = unchanged x it

-- What the call reads

closed_none : (topology : Topology) (before : History) → closed_as topology before 0 ≡ None
closed_none topology [] = refl
closed_none topology (Close s first trigger ∷ before) =
    let other : (0 == closed before + 1) ≡ false = ne_eqb 0 (closed before + 1) (λ e. omega (arith, e)) in
    ap (λ c. if c then Some (record { numbers = closing before (view_of topology before) s first.0; trigger = trigger }) else closed_as topology before 0) other ∙ closed_none topology before
closed_none topology (step ∷ before) = closed_none topology before

-- the batch that the stage works on, as the tables have it
pub record IsHere (core : Core) (s : StageNo) (bytes : ℕ) (os : List Outcome) (u : SubNo) (b : ℕ) : Type 0 where
  pub written : Written core.topology core.journal.steps s bytes os u b
  pub low : 1 ≤ b
  pub there : b - 1 < length core.batches.items
  pub row : BatchRow
  pub at : slice_get core.batches.items (b - 1) ≡ Some row
  pub numbers : row.numbers.items ≡ written.ms
  pub subs : row.subs.items ≡ sent_on core.topology core.journal.steps b
  pub legs_are : sent_in core.legs b ≡ Some (record { messages = length written.ms; ends = ends_of written.legs })

pub here : (core : Core) (s : StageNo) (bytes : ℕ) (os : List Outcome) (row : StageRow) (taken : SubNo × ℕ) → Stands core → allows core.topology core.journal.steps (Wrote s bytes (Outcomes os)) ≡ true
    → slice_get core.stages.items s.0 ≡ Some row → row.last_take ≡ Some taken → IsHere core s bytes os taken.0 row.taken
here core s bytes os row taken stands allowed found last =
    let topology = core.topology in
    let before = core.journal.steps in
    let x = stands.holds.fields in
    let within = write_within topology before s bytes os stands.holds.sound allowed in
    let is : Some row ≡ Some (stage_row topology before s) = sym found ∙ x.stages s within in
    let same : row ≡ stage_row topology before s = cc in
    let u = taken.0 in
    let b = row.taken in
    let w : Written topology before s bytes os u b =
    writing topology before s bytes os u taken.1 b stands.holds.sound stands.holds.legal stands.unowed allowed (sym (ap (λ (r : StageRow). r.last_take) same) ∙ last) (sym (ap (λ (r : StageRow). r.taken) same)) in
    let g = w.is in
    let most : b ≤ closed before = batch_closed topology before b (ap is_some g.batch_is) in
    let low : 1 ≤ b = least b w.ms g.numbers g.some in
    let there : b - 1 < length core.batches.items = omega (arith, low, most, x.sized.batches) in
    let r = some_at core.batches.items (b - 1) there in
    let number : suc (b - 1) ≡ b = omega (arith, low) in
    let seen : Some (closed_seen r.0) ≡ closed_as topology before b = sym (ap (option_map closed_seen) r.1) ∙ (x.batches (b - 1) ∙ ap (closed_as topology before) number) in
    record {
      written = w;
      low = low;
      there = there;
      row = r.0;
      at = r.1;
      numbers = ap closed_numbers seen ∙ sym g.numbers;
      subs = x.sent_on (b - 1) r.0 r.1 ∙ ap (sent_on topology before) number;
      legs_are = ap (sent_in core.legs) (sym number) ∙ (x.legs (b - 1) ∙ (ap (λ k. ends_in_progress (batch topology before k)) number ∙ in_progress_as topology before s bytes os u b (leg_place u (sent_on topology before b)) w.ms w.legs g));
    }
  where
    least : (b : ℕ) (ms : List ℕ) → ms ≡ closed_numbers (closed_as core.topology core.journal.steps b) → is_empty ms ≡ false → 1 ≤ b
    least zero ms e some = let none = ap is_empty (e ∙ ap closed_numbers (closed_none core.topology core.journal.steps)) in (let wrong : true ≡ false = sym none ∙ some in cc)
    least (suc b) ms e some = omega arith

pub stage_found : (core : Core) (s : StageNo) (bytes : ℕ) (end : BatchEnd) (os : List Outcome) → Stands core → allows core.topology core.journal.steps (Wrote s bytes end) ≡ true → end ≡ Outcomes os → s.0 < length core.stages.items
stage_found core s bytes end os stands allowed is =
    omega (arith, stands.holds.fields.sized.stages, write_within core.topology core.journal.steps s bytes os stands.holds.sound (ap (λ e. allows core.topology core.journal.steps (Wrote s bytes e)) (sym is) ∙ allowed))

-- the row that the code read
row_read : (core : Core) (s : StageNo) (bytes : ℕ) (end : BatchEnd) (os : List Outcome) (row : StageRow) → Stands core → allows core.topology core.journal.steps (Wrote s bytes end) ≡ true → end ≡ Outcomes os
    → row ≡ get_or core.stages.items s.0 row → slice_get core.stages.items s.0 ≡ Some row
row_read core s bytes end os row stands allowed is read =
    slice_get_read core.stages.items (length core.stages.items) s.0 row refl (stage_found core s bytes end os stands allowed is) read

pub answering : (core : Core) (s : StageNo) (bytes : ℕ) (end : BatchEnd) (os : List Outcome) (row : StageRow) (taken : SubNo × ℕ) → Stands core → allows core.topology core.journal.steps (Wrote s bytes end) ≡ true → end ≡ Outcomes os
    → row ≡ get_or core.stages.items s.0 row → row.last_take ≡ Some taken → IsHere core s bytes os taken.0 row.taken
answering core s bytes end os row taken stands allowed is read last =
    here core s bytes os row taken stands (ap (λ e. allows core.topology core.journal.steps (Wrote s bytes e)) (sym is) ∙ allowed)
    (row_read core s bytes end os row stands allowed is read) last

pub take_there : (core : Core) (s : StageNo) (bytes : ℕ) (end : BatchEnd) (os : List Outcome) (row : StageRow) → Stands core → allows core.topology core.journal.steps (Wrote s bytes end) ≡ true → end ≡ Outcomes os
    → row ≡ get_or core.stages.items s.0 row → is_some row.last_take ≡ true
take_there core s bytes end os row stands allowed is read =
    let mine = ap (λ e. allows core.topology core.journal.steps (Wrote s bytes e)) (sym is) ∙ allowed in
    let within = write_within core.topology core.journal.steps s bytes os stands.holds.sound mine in
    let at : Some row ≡ Some (stage_row core.topology core.journal.steps s) = sym (row_read core s bytes end os row stands allowed is read) ∙ stands.holds.fields.stages s within in
    let same : row ≡ stage_row core.topology core.journal.steps s = cc in
    ap (λ (r : StageRow). is_some r.last_take) same ∙ took_before core.topology core.journal.steps s bytes os stands.holds.legal mine

module _ (core : Core) (s : StageNo) (bytes : ℕ) (os : List Outcome) (u : SubNo) (b : ℕ) (h : IsHere core s bytes os u b) where
  pub leg_few : IfSome (slice_get core.batches.items (b - 1)) (λ row. length row.subs.items ≤ 64)
  leg_few = subst (λ (o : Option BatchRow). IfSome o (λ row. length row.subs.items ≤ 64)) (sym h.at) (let few = h.written.is.few in omega (arith, few, ap length h.subs))

  pub leg_is : (leg : ℕ) → IfSome (slice_get core.batches.items (b - 1)) (λ row. leg ≡ leg_place u row.subs.items) → leg ≡ leg_place u (sent_on core.topology core.journal.steps b)
  leg_is leg claim = subst (λ (o : Option BatchRow). IfSome o (λ row. leg ≡ leg_place u row.subs.items)) h.at claim ∙ ap (leg_place u) h.subs

  pub leg_open : (leg : ℕ) → leg ≡ leg_place u (sent_on core.topology core.journal.steps b) → IfSome (sent_in core.legs b) (λ e. slice_get e.ends leg ≡ Some None)
  leg_open leg same =
      subst (λ (o : Option Ends). IfSome o (λ e. slice_get e.ends leg ≡ Some None)) (sym h.legs_are)
      (ap (slice_get (ends_of h.written.legs)) same ∙ end_none h.written.legs (leg_place u (sent_on core.topology core.journal.steps b)) u h.written.is.leg)

  pub legs_there : is_some (sent_in core.legs b) ≡ true
  legs_there = ap is_some h.legs_are

  pub outcomes_many : IfSome (sent_in core.legs b) (λ e. HasOutcomes e.messages (Some (AnsweredEnd os)))
  outcomes_many = subst (λ (o : Option Ends). IfSome o (λ e. HasOutcomes e.messages (Some (AnsweredEnd os)))) (sym h.legs_are) h.written.is.many

  pub numbers_here : accepted core.journal.steps ≡ length core.places.items → IfSome (slice_get core.batches.items (b - 1)) (λ row. AreNumbers (length core.places.items) row.numbers.items)
  numbers_here len =
      subst (λ (o : Option BatchRow). IfSome o (λ row. AreNumbers (length core.places.items) row.numbers.items)) (sym h.at)
      (subst (AreNumbers (length core.places.items)) (sym h.numbers)
      (record {
        within = each_all (λ n. (1 ≤ n) × (n ≤ length core.places.items)) h.written.ms
            (each_weaker (λ n. place core.topology core.journal.steps n ≡ Some (InBatch (batch_no b))) (λ n. (1 ≤ n) × (n ≤ length core.places.items))
            (λ n p. let w = placed_accepted core.topology core.journal.steps n (ap is_some p) in (w.0, omega (arith, w.1, len))) h.written.ms h.written.is.inside);
        apart = pairs_apart h.written.ms h.written.is.apart;
      }))

  pub last_is : (leg : ℕ) (settled : Option Settled) → leg ≡ leg_place u (sent_on core.topology core.journal.steps b)
      → IfSome (with_end (sent_in core.legs b) leg (AnsweredEnd os)) (λ e. (legs : List Leg) → ends_of legs ≡ e.ends → is_some settled ≡ is_settled legs)
      → is_some settled ≡ is_settled (on_legs (leg_answered s os) h.written.legs)
  last_is leg settled same claim =
      let c = subst (λ (o : Option Ends). IfSome (with_end o leg (AnsweredEnd os)) (λ e. (legs : List Leg) → ends_of legs ≡ e.ends → is_some settled ≡ is_settled legs)) h.legs_are claim in
      c (on_legs (leg_answered s os) h.written.legs)
      (ends_put s os u h.written.legs (leg_place u (sent_on core.topology core.journal.steps b)) h.written.is.here h.written.is.once h.written.is.leg ∙ ap (λ k. set (ends_of h.written.legs) k (Some (AnsweredEnd os))) (sym same))

  pub settled_is : (leg : ℕ) (settled : Option Settled) → leg ≡ leg_place u (sent_on core.topology core.journal.steps b)
      → IfSome (with_end (sent_in core.legs b) leg (AnsweredEnd os)) (λ e. (legs : List Leg) → ends_of legs ≡ e.ends → IfSome settled (IsSettledBy e.messages legs))
      → (x : Settled) → settled ≡ Some x → IsSettledBy (length h.written.ms) (on_legs (leg_answered s os) h.written.legs) x
  settled_is leg settled same claim x e =
      let c = subst (λ (o : Option Ends). IfSome (with_end o leg (AnsweredEnd os)) (λ e. (legs : List Leg) → ends_of legs ≡ e.ends → IfSome settled (IsSettledBy e.messages legs))) h.legs_are claim in
      subst (λ (o : Option Settled). IfSome o (IsSettledBy (length h.written.ms) (on_legs (leg_answered s os) h.written.legs))) e
      (c (on_legs (leg_answered s os) h.written.legs)
      (ends_put s os u h.written.legs (leg_place u (sent_on core.topology core.journal.steps b)) h.written.is.here h.written.is.once h.written.is.leg ∙ ap (λ k. set (ends_of h.written.legs) k (Some (AnsweredEnd os))) (sym same)))

  pub legs_kept : (leg : ℕ) (settled : Option Settled) (table : List (ℕ × Ends)) → leg ≡ leg_place u (sent_on core.topology core.journal.steps b)
      → ((n : ℕ) → sent_in table n ≡ (if n == b then (if is_some settled then None else with_end (sent_in core.legs n) leg (AnsweredEnd os)) else sent_in core.legs n))
      → (n : ℕ) → sent_in table n ≡ (if n == b then (if is_some settled then None else with_end (sent_in core.legs n) (leg_place u (sent_on core.topology core.journal.steps b)) (AnsweredEnd os)) else sent_in core.legs n)
  legs_kept leg settled table same kept n = kept n ∙ ap (λ k. if n == b then (if is_some settled then None else with_end (sent_in core.legs n) k (AnsweredEnd os)) else sent_in core.legs n) same

  pub places_by : (settled : Option Settled) (old new : List Place) → IfSome (slice_get core.batches.items (b - 1)) (λ row. (i : ℕ) → slice_get new i ≡ option_map (ended_by settled row.numbers.items (suc i)) (slice_get old i))
      → (i : ℕ) → slice_get new i ≡ option_map (ended_by settled h.written.ms (suc i)) (slice_get old i)
  places_by settled old new claim =
      subst (λ ms. (i : ℕ) → slice_get new i ≡ option_map (ended_by settled ms (suc i)) (slice_get old i)) h.numbers
      (subst (λ (o : Option BatchRow). IfSome o (λ row. (i : ℕ) → slice_get new i ≡ option_map (ended_by settled row.numbers.items (suc i)) (slice_get old i))) h.at claim)

  pub marks_by : (settled : Option Settled) (tick : ℕ) (old new : List ℕ) → tick ≡ length core.journal.steps
      → IfSome (slice_get core.batches.items (b - 1)) (λ row. (i : ℕ) → slice_get new i ≡ option_map (marked_by settled row.numbers.items tick (suc i)) (slice_get old i))
      → (i : ℕ) → slice_get new i ≡ option_map (marked_by settled h.written.ms (length core.journal.steps) (suc i)) (slice_get old i)
  marks_by settled tick old new same claim =
      subst (λ t. (i : ℕ) → slice_get new i ≡ option_map (marked_by settled h.written.ms t (suc i)) (slice_get old i)) same
      (subst (λ ms. (i : ℕ) → slice_get new i ≡ option_map (marked_by settled ms tick (suc i)) (slice_get old i)) h.numbers
      (subst (λ (o : Option BatchRow). IfSome o (λ row. (i : ℕ) → slice_get new i ≡ option_map (marked_by settled row.numbers.items tick (suc i)) (slice_get old i))) h.at claim))

  -- what the write may acknowledge are the messages of the batch
  pub written_acks : MayAck core.topology core.journal.steps (Wrote s bytes (Outcomes os)) h.written.ms
  written_acks =
      may_ack core.topology core.journal.steps (Wrote s bytes (Outcomes os)) h.written.ms h.written.is.legal h.written.is.apart
      (each_weaker (λ n. place core.topology core.journal.steps n ≡ Some (InBatch (batch_no b))) (λ n. is_acked (place core.topology core.journal.steps n) ≡ false) (λ n p. ap is_acked p) h.written.ms h.written.is.inside)
      (each_weaker (λ n. place core.topology core.journal.steps n ≡ Some (InBatch (batch_no b))) (λ n. (1 ≤ n) × (n ≤ accepted core.journal.steps))
      (λ n p. placed_accepted core.topology core.journal.steps n (ap is_some p)) h.written.ms h.written.is.inside)
      (λ n t. sym (ap (λ ns. among ns n)
      (ap (λ bs. flat_map (λ k. numbers_in (batch core.topology core.journal.steps k)) bs) h.written.is.took
      ∙ (ap (λ o. numbers_in o ++ []) h.written.is.batch_is ∙ append-nil h.written.ms))) ∙ t)

  pub numbers_least : accepted core.journal.steps ≡ length core.places.items → IfSome (slice_get core.batches.items (b - 1)) (λ row. All (λ n. 1 ≤ n) row.numbers.items)
  numbers_least len =
      subst (λ (o : Option BatchRow). IfSome o (λ row. All (λ n. 1 ≤ n) row.numbers.items)) (sym h.at)
      (λ i d below. ((subst (λ (o : Option BatchRow). IfSome o (λ row. AreNumbers (length core.places.items) row.numbers.items)) h.at (numbers_here len)).within i d below).0)

  pub numbers_fit : Holds core → IfSome (slice_get core.batches.items (b - 1)) (λ row. length core.journal.acked.rows + length row.numbers.items ≤ core.journal.acked.room)
  numbers_fit x =
      subst (λ (o : Option BatchRow). IfSome o (λ row. length core.journal.acked.rows + length row.numbers.items ≤ core.journal.acked.room)) (sym h.at)
      (let many = ap length h.numbers in
      let fits = log_fits core (Wrote s bytes (Outcomes os)) h.written.ms x written_acks in
      omega (arith, many, fits))

  pub rows_by : (f : ℕ → Option AckRow) (rows : List AckRow) → IfSome (slice_get core.batches.items (b - 1)) (λ row. rows ≡ core.journal.acked.rows ++ filter_map f row.numbers.items)
      → rows ≡ core.journal.acked.rows ++ filter_map f h.written.ms
  rows_by f rows claim =
      subst (λ ms. rows ≡ core.journal.acked.rows ++ filter_map f ms) h.numbers
      (subst (λ (o : Option BatchRow). IfSome o (λ row. rows ≡ core.journal.acked.rows ++ filter_map f row.numbers.items)) h.at claim)
