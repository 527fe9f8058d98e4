-- The fields after a gather.
use Rattle.std.proofs.Common.{◌≡◌, ◌≢◌, ℕ, suc, ◌+◌, ◌-◌, ◌<◌, ◌≤◌, List, [], ◌∷◌, ◌++◌, map, drop, length, Bool, true, false, refl, ap, sym, ◌∙◌, Some, None, Option, arith, subst, inl, inr}
use Rattle.std.specs.Prelude.{slice_get, option_map, if◌then◌else◌, ◌==◌, ◌&&◌, ◌⊎◌, is_some, nat_lt, not, IfSome, IsTrue}
use Rattle.std.proofs.lemmas.Bool.{eq-eqb, eqb-true, false_from_ne_true}
use Rattle.std.specs.declared.alloc.Global.{Global}
use Rattle.std.specs.declared.vec.Vec.{Vec}
use Rattle.std.specs.declared.collections.VecDeque.{VecDeque}
use Rattle.pipe_types.specs.declared.numbers.StageNo.{StageNo}
use Rattle.pipe_types.specs.declared.numbers.SubNo.{SubNo}
use Rattle.pipe_types.specs.declared.numbers.MsgNo.{MsgNo}
use Rattle.pipe_types.specs.declared.message.Message.{Message}
use Rattle.pipe_types.specs.declared.message.Place.{Place}
use Rattle.pipe_types.specs.declared.message.Place.TheVariants.{Inbox, Gathered}
use Rattle.pipe_types.specs.declared.topology.Topology.{Topology}
use Rattle.pipe_types.specs.declared.topology.StageSpec.{StageSpec}
use Rattle.pipe_types.specs.declared.step.Step.TheVariants.{Gather}
use Rattle.pipe_types.specs.Numbers.{same_stage, same_sub, message_no}
use Rattle.pipe_types.specs.Stages.{spec_of, feeds}
use Rattle.pipe_types.specs.Sound.{IsSound}
use Rattle.pipe_model.specs.History.{History, now, accepted}
use Rattle.pipe_model.specs.Lives.{generation, current_sub}
use Rattle.pipe_model.specs.Content.{content, key_in, flush_in, gathers}
use Rattle.pipe_model.specs.Flow.{place, batch, inbox, sent_to, sent, in_inbox_by, leg_waits_in, is_gathered_in, gathered as gathered_place, view_of, open_batch_by}
use Rattle.pipe_model.specs.Ledger.{handled}
use Rattle.pipe_model.specs.Legal.{allows, is_legal, owed, first_unit, is_batcher_role, has_role, has_room, lets_in, batch_size_in, ends_in_flush}
use Rattle.pipe_model.specs.Lives.{is_live as is_live_stage}
use Rattle.pipe_model.specs.Standing.{gathered_in, in_inbox}
use Rattle.pipe_laws.proofs.Tests.{and_right, both, same_stage-self}
use Rattle.pipe_laws.proofs.Lists.{each_always, each_weaker, each_filter, first_kept}
use Rattle.pipe_laws.proofs.Allowed.{gather_facts, unowed}
use Rattle.pipe_laws.proofs.Accepted.{placed_accepted}
use Rattle.pipe_laws.proofs.Entries.{EntryFits, entries_fit}
use Rattle.pipe_laws.proofs.Idle.{fed_by_messages}
use Rattle.pipe_laws.proofs.Busy.{inbox_here}
use Rattle.pipe_laws.proofs.Handled.{handled_within, batcher_writes}
use Rattle.queue_laws.proofs.Laws.{waiting_law, inbox_law, gathered_law, open_law}
use Rattle.stage_laws.proofs.Laws.{running_law}
use Rattle.stage_subs.specs.Pairs.{PairRow}
use Rattle.stage_subs.specs.Subs.{row_of, row_at, is_pair, handled_more, IsChanged}
use Rattle.stage_subs.specs.Ledger.{ledger_row}
use Rattle.batcher.specs.Batches.{Batches, fits, gathered}
use Rattle.pipe_journal.specs.Recorded.{Recorded}
use Rattle.pipe_journal.specs.Readers.{reply_at}
use Rattle.core_tables.specs.declared.rows.ContentRow.{ContentRow}
use Rattle.core_laws.specs.Contents.{passed_in}
use Rattle.core_laws.proofs.Passing.{key_read, flush_read}
use Rattle.core_tables.specs.declared.rows.Totals.{Totals}
use Rattle.core_tables.specs.Tables.{queue_at}
use Rattle.core_tables.proofs.Tables.{same_or_other}
use Rattle.core_laws.specs.Columns.{open_batches, part_of, content_row}
use Rattle.core_laws.proofs.Lawful.{legal_after}
use Rattle.core_laws.proofs.Past.{known_within, live_known}
use Rattle.core_state.specs.declared.state.Core.{Core}
use Rattle.core_state.specs.Room.{Roomy}
use Rattle.core_state.specs.Stands.{Fields, Stands, opens_in, opens_at, KeepsLog}
use Rattle.core_state.proofs.Reading.{some_at}
use Rattle.stage_laws.proofs.Numbering.{numbered_topology}
use Rattle.core_batches.specs.Rows.{with_message, handled_on}
use Rattle.core_batches.proofs.Limits.{flip, limits_after}
use Rattle.core_batches.proofs.Opens.{IsNoneOf, opens_gathered, opens_kept, fits_open}
use Rattle.core_state.proofs.Parts.{Part, BatchersLen, BatchersSet, ChunksAre, InboxesAre, InboxesLen, OpensAre, PlacesAre, PlacesLen, SubsAre, TotalsAre, WaitingAre, Says, unchanged, fields_of}

-- the first unit of the batcher's inbox, which it may gather
pub record IsGathering (topology : Topology) (before : History) (s : StageNo) (m : MsgNo) (u : SubNo) : Type 0 where
  pub legal : is_legal topology (Gather s m ∷ before) ≡ true
  pub allowed : allows topology before (Gather s m) ≡ true
  pub first : m.0 ≡ first_unit (inbox topology before s)
  pub known : s.0 ≤ length topology.stages
  pub least : 1 ≤ m.0
  pub most : m.0 ≤ accepted before
  pub stands : place topology before m.0 ≡ Some (Inbox u)
  pub here : u.consumer ≡ s
  pub fed : feeds topology u.producer u.consumer ≡ true

pub gathering : (topology : Topology) (before : History) (s : StageNo) (u : SubNo) (n : ℕ) → IsSound topology → is_legal topology before ≡ true
    → allows topology before (Gather s (message_no (first_unit (inbox topology before s)))) ≡ true → slice_get (inbox topology before s) 0 ≡ Some (u, n)
    → IsGathering topology before s (message_no n) u
gathering topology before s u n sound legal allowed at = by (inbox topology before s) refl at
  where
    by : (units : List (SubNo × ℕ)) → inbox topology before s ≡ units → slice_get units 0 ≡ Some (u, n) → IsGathering topology before s (message_no n) u
    by [] e f = cc
    by (d ∷ units) e f =
        let is : d ≡ (u, n) = cc in
        let sub : d.0 ≡ u = ap (λ (x : SubNo × ℕ). x.0) is in
        let number : d.1 ≡ n = ap (λ (x : SubNo × ℕ). x.1) is in
        let same : first_unit (inbox topology before s) ≡ n = ap first_unit e ∙ number in
        let mine : allows topology before (Gather s (message_no n)) ≡ true = ap (λ k. allows topology before (Gather s (message_no k))) (sym same) ∙ allowed in
        let facts = gather_facts topology before s (message_no n) mine in
        let t = first_kept (EntryFits topology before s) (in_inbox topology before) (λ x. 0) (sent_to topology before s) d units (entries_fit topology before s) e in
        let plain = fed_by_messages topology d.0.producer s is_batcher_role batcher_writes t.1.feeding facts.role in
        let here : in_inbox_by d.0 (place topology before d.1) ≡ true = subst (λ b. (if b then leg_waits_in d.0 (batch topology before d.1) else in_inbox_by d.0 (place topology before d.1)) ≡ true) plain t.0 in
        let stands : place topology before n ≡ Some (Inbox u) = ap (place topology before) (sym number) ∙ (inbox_here d.0 (place topology before d.1) here ∙ ap (λ v. Some (Inbox v)) sub) in
        let consumer : u.consumer ≡ s = ap (λ (v : SubNo). v.consumer) (sym sub) ∙ t.1.consumer in
        record {
          legal = legal_after topology before (Gather s (message_no n)) legal mine;
          allowed = mine;
          first = sym same;
          known = (known_within topology s (numbered_topology topology sound) (live_known topology before s facts.live)).1;
          least = facts.some;
          most = (placed_accepted topology before n (ap is_some stands)).1;
          stands = stands;
          here = consumer;
          fed = ap (λ c. feeds topology u.producer c) consumer ∙ (ap (λ (v : SubNo). feeds topology v.producer s) (sym sub) ∙ t.1.feeding);
        }

-- there is a first unit
pub some_first : (topology : Topology) (before : History) (s : StageNo) → allows topology before (Gather s (message_no (first_unit (inbox topology before s)))) ≡ true → 0 < length (inbox topology before s)
some_first topology before s allowed =
    let facts = gather_facts topology before s (message_no (first_unit (inbox topology before s))) allowed in by (inbox topology before s) facts.some
  where
    by : (units : List (SubNo × ℕ)) → 1 ≤ first_unit units → 0 < length units
    by [] h = absurd (omega arith)
    by (d ∷ units) h = omega arith

-- What is counted

counted : (a b d : Bool) (row : PairRow) → (if a && b then Some (if d then handled_more 1 row else row) else Some row)
    ≡ Some (record row { counts = record row.counts { handled = if a && (b && d) then row.counts.handled + 1 else row.counts.handled } })
counted true true true row = refl
counted true true false row = refl
counted true false d row = refl
counted false b d row = refl

handled_row : (topology : Topology) (before : History) (s : StageNo) (m : MsgNo) (u : SubNo) (old new : List (Option PairRow)) (c p : StageNo) → place topology before m.0 ≡ Some (Inbox u)
    → row_at old c p ≡ Some (ledger_row topology before c p) → IsChanged old new u (handled_on u.generation 1) → row_at new c p ≡ Some (ledger_row topology (Gather s m ∷ before) c p)
handled_row topology before s m u old new c p stands was changed =
    let v = current_sub topology before c p in
    let row = ledger_row topology before c p in
    changed.rows c p
    ∙ (ap (λ o. if is_pair u.consumer u.producer c p then option_map (handled_on u.generation 1) o else o) was
    ∙ (counted (same_stage c u.consumer) (same_stage p u.producer) (generation topology before c p == u.generation) row
    ∙ ap (λ o. Some (record row { counts = record row.counts { handled = if in_inbox_by v o then handled topology before v + 1 else handled topology before v } })) (sym stands)))

-- what may be counted
pub handled_room : (topology : Topology) (before : History) (s : StageNo) (m : MsgNo) (u : SubNo) → IsGathering topology before s m u
    → handled topology before u + 1 ≤ sent topology before u
handled_room topology before s m u t =
    let more : handled topology (Gather s m ∷ before) u ≡ handled topology before u + 1 =
    ap (λ o. if in_inbox_by u o then handled topology before u + 1 else handled topology before u) t.stands ∙ ap (λ b. if b then handled topology before u + 1 else handled topology before u) (self u) in
    omega (arith, more, handled_within topology (Gather s m ∷ before) u t.legal)
  where
    self : (u : SubNo) → same_sub u u ≡ true
    self u = both (same_stage u.consumer u.consumer) _ (same_stage-self u.consumer) (both (same_stage u.producer u.producer) _ (same_stage-self u.producer) (eq-eqb u.generation u.generation refl))

pub row_room : (core : Core) (topology : Topology) (before : History) (s : StageNo) (m : MsgNo) (u : SubNo) → Fields core topology before → IsGathering topology before s m u
    → IfSome (row_of core.subs u) (λ row. row.generation ≡ u.generation → row.counts.handled + 1 ≤ row.counts.arrived)
row_room core topology before s m u x t =
    subst (λ (o : Option PairRow). IfSome o (λ row. row.generation ≡ u.generation → row.counts.handled + 1 ≤ row.counts.arrived)) (sym (x.subs u.consumer u.producer t.fed))
    (λ same.
    let is : current_sub topology before u.consumer u.producer ≡ u = ap (λ g. record { consumer = u.consumer; producer = u.producer; generation = g }) same in
    subst (λ (v : SubNo). handled topology before v + 1 ≤ sent topology before v) (sym is) (handled_room topology before s m u t))

-- Where it stands

left_place : (s : StageNo) (m n : ℕ) (o : Option Place) → (m == n) ≡ false → option_map (gathered_place s m n) o ≡ o
left_place s m n (Some (Inbox u)) e = ap (λ b. Some (if same_stage s u.consumer && b then Gathered s else Inbox u)) e ∙ by (same_stage s u.consumer)
  where
    by : (a : Bool) → Some (if a && false then Gathered s else Inbox u) ≡ Some (Inbox u)
    by true = refl
    by false = refl
left_place s m n _ e = refl

placed_after : (topology : Topology) (before : History) (s : StageNo) (m : MsgNo) (u : SubNo) (i : ℕ) (old : Option Place) → place topology before m.0 ≡ Some (Inbox u) → u.consumer ≡ s
    → old ≡ place topology before (suc i) → (if m.0 == suc i then Some (Gathered s) else old) ≡ place topology (Gather s m ∷ before) (suc i)
placed_after topology before s m u i old stands here was = by (same_or_other m.0 (suc i))
  where
    by : (((m.0 == suc i) ≡ true) × (m.0 ≡ suc i)) ⊎ (((m.0 == suc i) ≡ false) × (m.0 ≢ suc i)) → (if m.0 == suc i then Some (Gathered s) else old) ≡ option_map (gathered_place s m.0 (suc i)) (place topology before (suc i))
    by (inl same) =
        let now_here : same_stage s u.consumer ≡ true = ap (same_stage s) here ∙ same_stage-self s in
        ap (λ b. if b then Some (Gathered s) else old) same.0
        ∙ sym (ap (λ k. option_map (gathered_place s m.0 (suc i)) (place topology before k)) (sym same.1)
        ∙ (ap (option_map (gathered_place s m.0 (suc i))) stands
        ∙ ap (λ b. Some (if b then Gathered s else Inbox u)) (both (same_stage s u.consumer) (m.0 == suc i) now_here same.0)))
    by (inr other) = ap (λ b. if b then Some (Gathered s) else old) other.0 ∙ (was ∙ sym (left_place s m.0 (suc i) (place topology before (suc i)) other.0))

-- Its batch

-- a message in an inbox is none of those gathered
pub none_gathered : (topology : Topology) (before : History) (m : MsgNo) (u : SubNo) (t : StageNo) → place topology before m.0 ≡ Some (Inbox u) → IsNoneOf m (gathered_in topology before t)
none_gathered topology before m u t stands =
    each_weaker (λ n. Unit {0} × (is_gathered_in t (place topology before n) ≡ true)) (λ n. (m.0 == n) ≡ false)
    (λ n p. false_from_ne_true (m.0 == n) (λ same.
    let is : is_gathered_in t (Some (Inbox u)) ≡ true = ap (is_gathered_in t) (sym stands) ∙ (ap (λ k. is_gathered_in t (place topology before k)) (eqb-true m.0 n same) ∙ p.1) in
    (let wrong : false ≡ true = is in cc)))
    (gathered_in topology before t)
    (each_filter (λ n. Unit {0}) (λ n. is_gathered_in t (place topology before n)) (gathers before t) (each_always (λ n. Unit {0}) (λ n. tt) (gathers before t)))

-- the message fits in the open batches of its batcher
pub fits_held : (core : Core) (topology : Topology) (before : History) (s : StageNo) (m : MsgNo) (u : SubNo) (message : Option Message) → Fields core topology before → IsGathering topology before s m u
    → key_in message ≡ key_in (content before m.0) → IfSome (slice_get core.batchers.items s.0) (λ held. IsTrue (fits held.batch_size (key_in message) held.batches))
fits_held core topology before s m u message x t key = by (slice_get core.batchers.items s.0) refl
  where
    lets : lets_in topology before s (open_batch_by before (view_of topology before) s (key_in (content before m.0))) ≡ true
    lets =
        let all = unowed topology before (Gather s m) (λ t. refl) (λ t. refl) t.allowed in
        let two = and_right (has_role topology s is_batcher_role) _ (and_right (is_live_stage topology before s) _ all) in
        and_right (has_room topology before s) _ (and_right (m.0 == first_unit (inbox topology before s)) _ (and_right (nat_lt 0 m.0) _ two))

    open_fits : (size : ℕ) → size ≡ batch_size_in (spec_of topology s) → fits size (key_in message) (open_batches before (gathered_in topology before s)) ≡ true
    open_fits size is =
        ap (λ k. fits size k (open_batches before (gathered_in topology before s))) key
        ∙ (fits_open before size (key_in (content before m.0)) (gathered_in topology before s)
        ∙ (ap (λ xs. nat_lt (length xs) size && not (ends_in_flush before xs)) (sym (open_law topology before s (key_in (content before m.0))))
        ∙ (ap (λ k. nat_lt (length (open_batch_by before (view_of topology before) s (key_in (content before m.0)))) k && not (ends_in_flush before (open_batch_by before (view_of topology before) s (key_in (content before m.0))))) is
        ∙ lets)))

    sized : (held : Batches) (o : Option StageSpec) → spec_of topology s ≡ o → is_some o ≡ true → slice_get core.batchers.items s.0 ≡ Some held → held.batch_size ≡ batch_size_in (spec_of topology s)
    sized held None e h f = cc
    sized held (Some spec) e h f = (x.set.batchers s spec held e f).0 ∙ ap batch_size_in (sym e)

    by : (o : Option Batches) → slice_get core.batchers.items s.0 ≡ o → IfSome o (λ held. IsTrue (fits held.batch_size (key_in message) held.batches))
    by None e = tt
    by (Some held) e =
        let live = (gather_facts topology before s m t.allowed).live in
        let size = sized held (spec_of topology s) refl (live_known topology before s live) e in
        let opens : held.batches ≡ open_batches before (gathered_in topology before s) = sym (ap opens_in e) ∙ x.opens s in
        ap (fits held.batch_size (key_in message)) opens ∙ open_fits held.batch_size size

-- the open batches of each batcher
opens_after : (topology : Topology) (before : History) (s t : StageNo) (m : MsgNo) (u : SubNo) (message : Option Message) (tick : ℕ) (old new : List Batches)
    → IsGathering topology before s m u → s.0 < length old → key_in message ≡ key_in (content before m.0) → flush_in message ≡ flush_in (content before m.0) → tick ≡ now before
    → ((i : ℕ) → slice_get new i ≡ (if s.0 == i then option_map (with_message message m.0 tick) (slice_get old i) else slice_get old i))
    → opens_at old t ≡ open_batches before (gathered_in topology before t)
    → opens_at new t ≡ open_batches (Gather s m ∷ before) (gathered_in topology (Gather s m ∷ before) t)
opens_after topology before s t m u message tick old new g within key flush ticks joined was = by (same_or_other s.0 t.0)
  where
    none : IsNoneOf m (gathered_in topology before t)
    none = none_gathered topology before m u t g.stands

    after : (b : Bool) → same_stage t s ≡ b → gathered_in topology (Gather s m ∷ before) t ≡ (if b then gathered_in topology before t ++ m.0 ∷ [] else gathered_in topology before t)
    after b e = gathered_law topology before (Gather s m) t g.legal ∙ ap (λ c. if c then gathered_in topology before t ++ m.0 ∷ [] else gathered_in topology before t) e

    by : (((s.0 == t.0) ≡ true) × (s.0 ≡ t.0)) ⊎ (((s.0 == t.0) ≡ false) × (s.0 ≢ t.0)) → opens_at new t ≡ open_batches (Gather s m ∷ before) (gathered_in topology (Gather s m ∷ before) t)
    by (inl same) =
        let found = some_at old s.0 within in
        let there : slice_get old t.0 ≡ Some found.0 = ap (slice_get old) (sym same.1) ∙ found.1 in
        let held : found.0.batches ≡ open_batches before (gathered_in topology before t) = sym (ap opens_in there) ∙ was in
        ap opens_in (joined t.0)
        ∙ (ap (λ b. opens_in (if b then option_map (with_message message m.0 tick) (slice_get old t.0) else slice_get old t.0)) same.0
        ∙ (ap (λ o. opens_in (option_map (with_message message m.0 tick) o)) there
        ∙ (ap (gathered (key_in message) m.0 (flush_in message) tick) held
        ∙ (ap (λ k. gathered k m.0 (flush_in message) tick (open_batches before (gathered_in topology before t))) key
        ∙ (ap (λ f. gathered (key_in (content before m.0)) m.0 f tick (open_batches before (gathered_in topology before t))) flush
        ∙ (ap (λ k. gathered (key_in (content before m.0)) m.0 (flush_in (content before m.0)) k (open_batches before (gathered_in topology before t))) ticks
        ∙ (sym (opens_gathered before s m (gathered_in topology before t) g.least none)
        ∙ ap (open_batches (Gather s m ∷ before)) (sym (after true (eq-eqb t.0 s.0 (sym same.1)))))))))))
    by (inr other) =
        ap opens_in (joined t.0)
        ∙ (ap (λ b. opens_in (if b then option_map (with_message message m.0 tick) (slice_get old t.0) else slice_get old t.0)) other.0
        ∙ (was
        ∙ (sym (opens_kept before s m (gathered_in topology before t) g.least none)
        ∙ ap (open_batches (Gather s m ∷ before)) (sym (after false (false_from_ne_true (same_stage t s) (λ e. other.1 (sym (eqb-true t.0 s.0 e)))))))))

-- the fields after a gather
pub gathered_fields : (core : Core) (topology : Topology) (before : History) (s : StageNo) (m : MsgNo) (u : SubNo) (message : Option Message)
    (j : Recorded) (batchers : Vec Batches Global) (inboxes : Vec (VecDeque (SubNo × ℕ) Global) Global) (places : Vec Place Global) (subs : List (Option PairRow))
    → IsSound topology → Fields core topology before → IsGathering topology before s m u
    → key_in message ≡ key_in (content before m.0) → flush_in message ≡ flush_in (content before m.0)
    → ((i : ℕ) → slice_get batchers.items i ≡ (if s.0 == i then option_map (with_message message m.0 core.totals.now) (slice_get core.batchers.items i) else slice_get core.batchers.items i))
    → length batchers.items ≡ length core.batchers.items
    → ((t : StageNo) → queue_at inboxes.items t ≡ (if s.0 == t.0 then drop 1 (queue_at core.inboxes.items t) else queue_at core.inboxes.items t)) → length inboxes.items ≡ length core.inboxes.items
    → ((i : ℕ) → slice_get places.items i ≡ (if m.0 == suc i then Some (Gathered s) else slice_get core.places.items i)) → length places.items ≡ length core.places.items
    → IsChanged core.subs subs u (handled_on u.generation 1)
    → Fields (record core { journal = j; batchers = batchers; inboxes = inboxes; places = places; subs = subs; totals = record core.totals { quiet = 0 } }) topology (Gather s m ∷ before)
gathered_fields core topology before s m u message j batchers inboxes places subs sound x g key flush joined len-batchers dropped len-inboxes placed len-places counts = fields_of says
  where
    says : (it : Part) → Says it (record core { journal = j; batchers = batchers; inboxes = inboxes; places = places; subs = subs; totals = record core.totals { quiet = 0 } }) topology (Gather s m ∷ before)
    says InboxesLen = len-inboxes ∙ x.sized.inboxes
    says BatchersLen = len-batchers ∙ x.sized.batchers
    says PlacesLen = len-places ∙ x.sized.places
    says BatchersSet = λ t spec held known at. limits_after (with_message message m.0 core.totals.now) (λ h. refl) (λ h. refl) s t core.batchers.items batchers.items spec held joined (λ h e. x.set.batchers t spec h known e) at
    says SubsAre = λ c p fed. handled_row topology before s m u core.subs subs c p g.stands (x.subs c p fed) counts
    says WaitingAre = λ t. x.waiting t ∙ ap (map {B = ℕ × ℕ} (λ n. (part_of topology before (spec_of topology t) n, n))) (sym (waiting_law topology before (Gather s m) t sound g.legal))
    says InboxesAre = λ t.
        dropped t
        ∙ (ap (λ (us : List (SubNo × ℕ)). if s.0 == t.0 then drop 1 us else us) (x.inboxes t)
        ∙ (ap (λ b. if b then drop 1 (inbox topology before t) else inbox topology before t) (flip s.0 t.0)
        ∙ sym (inbox_law topology before (Gather s m) t sound g.legal)))
    says ChunksAre = λ t. x.chunks t ∙ sym (running_law topology before (Gather s m) t sound g.legal)
    says OpensAre = λ t. opens_after topology before s t m u message core.totals.now core.batchers.items batchers.items g (omega (arith, x.sized.batchers, g.known)) key flush (ap (λ (y : Totals). y.now) x.totals) joined (x.opens t)
    says PlacesAre = λ i. placed i ∙ placed_after topology before s m u i (slice_get core.places.items i) g.stands g.here (x.places i)
    says TotalsAre = ap (λ (y : Totals). record y { quiet = 0 }) x.totals
    says it = unchanged x it

-- Where the journal alone made room and the batchers say what they said, the core stands
pub refused_stands : (core : Core) (j : Recorded) (batchers : Vec Batches Global) → Stands core → j.steps ≡ core.journal.steps
    → ((i : ℕ) → slice_get batchers.items i ≡ slice_get core.batchers.items i) → length batchers.items ≡ length core.batchers.items
    → core.journal.spare ≤ j.spare → j.acked ≡ core.journal.acked → Stands (record core { journal = j; batchers = batchers })
refused_stands core j batchers stands same kept len spare acked =
    record {
      holds =
          record {
            sound = stands.holds.sound;
            legal = ap (is_legal core.topology) same ∙ stands.holds.legal;
            fields = subst (λ (h : History). Fields (record core { journal = j; batchers = batchers }) core.topology h) (sym same) (fields core.topology core.journal.steps stands.holds.fields);
            room = subst (λ (h : History). Roomy (record core { journal = j; batchers = batchers }) core.topology h) (sym same) (room core.topology core.journal.steps stands.holds.room);
            log = subst (λ (h : History). KeepsLog core.topology h j.acked) (sym same) (subst (KeepsLog core.topology core.journal.steps) (sym acked) stands.holds.log);
          };
      unowed = ap (owed core.topology) same ∙ stands.unowed;
    }
  where
    room : (topology : Topology) (before : History) → Roomy core topology before → Roomy (record core { journal = j; batchers = batchers }) topology before
    room topology before x = record { steps = omega (arith, x.steps, spare); rows = x.rows; queues = x.queues; ends = x.ends }

    fields : (topology : Topology) (before : History) → Fields core topology before → Fields (record core { journal = j; batchers = batchers }) topology before
    fields topology before x = fields_of says
      where
        says : (it : Part) → Says it (record core { journal = j; batchers = batchers }) topology before
        says BatchersLen = len ∙ x.sized.batchers
        says BatchersSet = λ t spec held known at. x.set.batchers t spec held known (sym (kept t.0) ∙ at)
        says OpensAre = λ t. ap opens_in (kept t.0) ∙ x.opens t
        says it = unchanged x it

-- What the call reads

pub gather_within : (topology : Topology) (before : History) (s : StageNo) (m : MsgNo) → IsSound topology → allows topology before (Gather s m) ≡ true → s.0 ≤ length topology.stages
gather_within topology before s m sound allowed = (known_within topology s (numbered_topology topology sound) (live_known topology before s (gather_facts topology before s m allowed).live)).1

pub read_first : (core : Core) (s : StageNo) (r : SubNo × ℕ) (inboxes : List (VecDeque (SubNo × ℕ) Global)) → Stands core
    → allows core.topology core.journal.steps (Gather s (message_no (first_unit (inbox core.topology core.journal.steps s)))) ≡ true → inboxes ≡ core.inboxes.items → slice_get (queue_at inboxes s) 0 ≡ Some r
    → IsGathering core.topology core.journal.steps s (message_no r.1) r.0
read_first core s r inboxes stands allowed same at =
    gathering core.topology core.journal.steps s r.0 r.1 stands.holds.sound stands.holds.legal allowed
    (ap (λ us. slice_get us 0) (sym (stands.holds.fields.inboxes s)) ∙ (ap (λ qs. slice_get (queue_at qs s) 0) (sym same) ∙ at))

-- the words of a message as the journal gives them
pub record AreWords (before : History) (n : ℕ) (message : Option Message) : Type 0 where
  pub key : key_in message ≡ key_in (content before n)
  pub flush : flush_in message ≡ flush_in (content before n)

pub read_words : (core : Core) (steps : History) (n : ℕ) (row : ContentRow) → Stands core → steps ≡ core.journal.steps → 1 ≤ n → slice_get core.contents.items (n - 1) ≡ Some row
    → AreWords core.journal.steps n (passed_in (reply_at steps row.entry row.item))
read_words core steps n row stands same low at =
    let before = core.journal.steps in
    let number : suc (n - 1) ≡ n = omega (arith, low) in
    let there : content_row before n ≡ Some row = ap (content_row before) (sym number) ∙ (sym (stands.holds.fields.contents (n - 1)) ∙ at) in
    record {
      key = ap (λ (h : History). key_in (passed_in (reply_at h row.entry row.item))) same ∙ key_read before n row there;
      flush = ap (λ (h : History). flush_in (passed_in (reply_at h row.entry row.item))) same ∙ flush_read before n row there;
    }
