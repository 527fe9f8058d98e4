-- The batch that a batch processor answers.
use Rattle.std.proofs.Common.{◌≡◌, ℕ, zero, suc, set, ◌+◌, ◌≤◌, List, [], ◌∷◌, map, length, Bool, true, false, refl, ap, sym, ◌∙◌, subst, Some, None, Option, arith}
use Rattle.std.specs.Prelude.{slice_get, if◌then◌else◌, ◌==◌, ◌&&◌, ◌||◌, not, is_some}
use Rattle.std.proofs.lemmas.Bool.{eqb-true, eq-eqb, false_from_ne_true}
use Rattle.std.proofs.lemmas.List.{length-map}
use Rattle.pipe_types.specs.declared.numbers.StageNo.{StageNo}
use Rattle.pipe_types.specs.declared.numbers.SubNo.{SubNo}
use Rattle.pipe_types.specs.declared.topology.Topology.{Topology}
use Rattle.pipe_types.specs.declared.topology.Role.{Role}
use Rattle.pipe_types.specs.declared.topology.Role.TheVariants.{Processor, Batcher, BatchProcessor}
use Rattle.pipe_types.specs.declared.message.Outcome.{Outcome}
use Rattle.pipe_types.specs.declared.message.BatchEnd.TheVariants.{Outcomes}
use Rattle.pipe_types.specs.declared.step.Step.TheVariants.{Fetch, Take, Child, Wrote}
use Rattle.pipe_types.specs.Numbers.{same_stage, same_sub, post, batch_no}
use Rattle.pipe_types.specs.Stages.{spec_of, feeds}
use Rattle.pipe_types.specs.Sound.{IsSound}
use Rattle.pipe_model.specs.History.{History}
use Rattle.pipe_model.specs.Posts.{is_out, last_take, answers}
use Rattle.pipe_model.specs.Content.{content}
use Rattle.pipe_model.specs.Flow.{place, batch, sent_to, is_batcher, among, numbers_in, first_in, runs_in, is_empty}
use Rattle.pipe_model.specs.Batches.{Batch, BatchPlace, AtBatcher, Sent, Dropped, Leg, LegPlace, InInbox, AtWork, Answered, LegLost, on_legs, leg_answered, is_settled, is_leg_open}
use Rattle.pipe_model.specs.Work.{taken_units, batch_of, count, messages_of}
use Rattle.pipe_model.specs.Counting.{as_number}
use Rattle.pipe_types.specs.declared.message.Place.TheVariants.{InBatch}
use Rattle.message_ack.specs.Ends.{ends_of, end_of}
use Rattle.message_ack.specs.declared.legs.LegEnd.TheVariants.{Answered as AnsweredEnd}
use Rattle.pipe_model.specs.Legal.{is_legal, allows, owed, has_role, is_producer_role, is_supervisor_role, is_batch_processor_role}
use Rattle.pipe_model.specs.Standing.{works, leg_works, leg_works_in, works_at, is_at_work}
use Rattle.pipe_model.specs.Taken.{closed_as}
use Rattle.pipe_laws.proofs.Tests.{clash, and_left, and_right, same_stage-true, same_stage-self, same_sub-true, same_sub-self}
use Rattle.pipe_laws.proofs.Lists.{Each, each_weaker, each_both, weigh}
use Rattle.pipe_laws.proofs.Allowed.{legal_before, legal_step, WroteFacts, wrote_facts, fetch_role, child_facts}
use Rattle.pipe_laws.proofs.Accepted.{placed_content}
use Rattle.pipe_laws.proofs.Entries.{EntryFits, entries_fit}
use Rattle.pipe_laws.proofs.Levels.{rank, feeds_down}
use Rattle.pipe_laws.proofs.Busy.{Busy, busy, work_weight, two_roles}
use Rattle.queue_laws.proofs.Apart.{Apart}
use Rattle.queue_laws.proofs.AtWork.{last_one, calm_batch}
use Rattle.queue_laws.proofs.BatchWork.{WorksTaken, batch_work, writer_rank, writes_produces}
use Rattle.queue_laws.proofs.Batched.{BatchHolds, batch_holds}
use Rattle.queue_laws.proofs.Counts.{TookBy, took}
use Rattle.queue_laws.proofs.Distinct.{itself}
use Rattle.queue_laws.proofs.OneLeg.{leg_to, BatchOnce, legs_once}
use Rattle.queue_laws.proofs.Roles.{rank_batcher}
use Rattle.queue_laws.proofs.Sounds.{fits}
use Rattle.stage_laws.proofs.Numbering.{numbered_topology}
use Rattle.core_laws.specs.Columns.{closed_numbers, sent_on, ends_in_progress}
use Rattle.core_laws.proofs.Lawful.{legal_after}
use Rattle.core_laws.proofs.Parts.{closed_is}
use Rattle.core_laws.proofs.Past.{known_within, live_known}
use Rattle.core_laws.proofs.LegsOn.{IsOnSubs, legs_are_on, legs_few}
use Rattle.core_state.proofs.Settling.{numbers_once}
use Rattle.core_batches.specs.Writes.{leg_place}
use Rattle.pipe_laws.proofs.Outcomes.{ends_count}
use Rattle.pipe_laws.proofs.Replies.{messages_length}

-- The batch at work

some_weight : {A : Type 0} (P : A → Type 0) (f : A → ℕ) (xs : List A) → Each P xs → 1 ≤ weigh f xs → (x : A) × P x × (1 ≤ f x)
some_weight P f [] h e = absurd (omega arith)
some_weight {A = A} P f (x ∷ xs) h e = by (f x) refl (λ more. some_weight P f xs h.1 more)
  where
    by : (n : ℕ) → f x ≡ n → (1 ≤ weigh f xs → (y : A) × P y × (1 ≤ f y)) → (y : A) × P y × (1 ≤ f y)
    by zero e0 rest = rest (omega (arith, e, e0))
    by (suc n) e0 rest = (x, h.0, omega (arith, e0))

writer_supervises : (role : Role) → is_batch_processor_role role ≡ true → is_supervisor_role role ≡ true → ⊥
writer_supervises BatchProcessor h k = let x : false ≡ true = k in cc
writer_supervises _ h k = let x : false ≡ true = h in cc

-- a batch processor whose job is out took something
took_some : (topology : Topology) (before : History) (s : StageNo) → is_legal topology before ≡ true → has_role topology s is_batch_processor_role ≡ true → is_out before (post s 0) ≡ true → is_some (last_take before s) ≡ true
took_some topology [] s h role out = cc
took_some topology (Take t v k ∷ before) s h role out =
    by (same_stage s t) out (took_some topology before s (legal_before topology before (Take t v k) h) role)
  where
    by : (b : Bool) → ((b && true) || is_out before (post s 0)) ≡ true → (is_out before (post s 0) ≡ true → is_some (last_take before s) ≡ true) → is_some (if b then Some (v, k) else last_take before s) ≡ true
    by true out rest = refl
    by false out rest = rest out
took_some topology (Fetch t n ∷ before) s h role out =
    by (same_stage s t) refl out (took_some topology before s (legal_before topology before (Fetch t n) h) role)
  where
    by : (b : Bool) → same_stage s t ≡ b → ((b && true) || is_out before (post s 0)) ≡ true → (is_out before (post s 0) ≡ true → is_some (last_take before s) ≡ true) → is_some (last_take before s) ≡ true
    by true e out rest =
        absurd (two_roles topology s is_batch_processor_role is_producer_role writes_produces role
        (subst (λ x. has_role topology x is_producer_role ≡ true) (sym (same_stage-true s t e)) (fetch_role topology before t n (legal_step topology before (Fetch t n) h))))
    by false e out rest = rest out
took_some topology (Child t m k ∷ before) s h role out =
    by (same_stage s t) refl (0 == k) out (took_some topology before s (legal_before topology before (Child t m k) h) role)
  where
    by : (b : Bool) → same_stage s t ≡ b → (c : Bool) → ((b && c) || is_out before (post s 0)) ≡ true → (is_out before (post s 0) ≡ true → is_some (last_take before s) ≡ true) → is_some (last_take before s) ≡ true
    by true e c out rest =
        absurd (two_roles topology s is_batch_processor_role is_supervisor_role writer_supervises role
        (subst (λ x. has_role topology x is_supervisor_role ≡ true) (sym (same_stage-true s t e)) (child_facts topology before t m k (legal_step topology before (Child t m k) h)).role))
    by false e c out rest = rest out
took_some topology (step ∷ before) s h role out =
    took_some topology before s (legal_before topology before step h) role (and_right (not (answers step (post s 0))) _ out)

-- a leg at work stands among the legs
leg_index : (u : SubNo) (legs : List Leg) → leg_works u legs ≡ true → (i : ℕ) × (slice_get legs i ≡ Some (record { sub = u; place = AtWork }))
leg_index u [] h = cc
leg_index u (leg ∷ legs) h = by (same_sub u leg.sub) refl leg.place refl h (λ k. leg_index u legs k)
  where
    more : (i : ℕ) × (slice_get legs i ≡ Some (record { sub = u; place = AtWork })) → (i : ℕ) × (slice_get (leg ∷ legs) i ≡ Some (record { sub = u; place = AtWork }))
    more t = (suc t.0, t.1)

    by : (a : Bool) → same_sub u leg.sub ≡ a → (p : LegPlace) → leg.place ≡ p → ((a && is_at_work p) || leg_works u legs) ≡ true
        → (leg_works u legs ≡ true → (i : ℕ) × (slice_get legs i ≡ Some (record { sub = u; place = AtWork }))) → (i : ℕ) × (slice_get (leg ∷ legs) i ≡ Some (record { sub = u; place = AtWork }))
    by true e AtWork f k rest =
        let same : leg.sub ≡ u = sym (same_sub-true u leg.sub e) in
        let is : leg ≡ record { sub = u; place = AtWork } = λ i. record { sub = same i; place = f i } in
        (0, ap Some is)
    by true e InInbox f k rest = more (rest k)
    by true e (Answered o) f k rest = more (rest k)
    by true e (LegLost l) f k rest = more (rest k)
    by false e p f k rest = more (rest k)

-- the batch of a leg at work was sent
record IsWorked (u : SubNo) (o : Option Batch) : Type 0 where
  ms : List ℕ
  legs : List Leg
  is : o ≡ Some (record { numbers = ms; place = Sent legs })
  works : leg_works u legs ≡ true

worked : (u : SubNo) (o : Option Batch) → leg_works_in u o ≡ true → IsWorked u o
worked u None h = cc
worked u (Some x) h = by x.place refl h
  where
    by : (p : BatchPlace) → x.place ≡ p → works_at u p ≡ true → IsWorked u (Some x)
    by (AtBatcher s) e h = cc
    by (Dropped l) e h = cc
    by (Sent legs) e h = record { ms = x.numbers; legs = legs; is = (let is : x ≡ record { numbers = x.numbers; place = Sent legs } = λ i. record { numbers = x.numbers; place = e i } in ap Some is); works = h }

-- no leg before it is on the same subscription
index_is : (u : SubNo) (legs : List Leg) (i : ℕ) → Apart leg_to legs → slice_get legs i ≡ Some (record { sub = u; place = AtWork }) → leg_place u (map (λ (leg : Leg). leg.sub) legs) ≡ i
index_is u [] i apart e = cc
index_is u (leg ∷ legs) zero apart e =
    let is : leg ≡ record { sub = u; place = AtWork } = cc in
    ap (λ b. if b then 0 else leg_place u (map (λ (x : Leg). x.sub) legs) + 1) (ap (λ (x : Leg). same_sub x.sub u) is ∙ same_sub-self u)
index_is u (leg ∷ legs) (suc i) apart e =
    let other : same_sub leg.sub u ≡ false =
    false_from_ne_true (same_sub leg.sub u) (λ same. clash (leg_to leg == u.consumer.0) (eq-eqb (leg_to leg) u.consumer.0 (ap (λ (v : SubNo). v.consumer.0) (same_sub-true leg.sub u same))) (at legs i apart.0 e)) in
    ap (λ b. if b then 0 else leg_place u (map (λ (x : Leg). x.sub) legs) + 1) other ∙ (let rest = index_is u legs i apart.1 e in omega (arith, rest))
  where
    at : (xs : List Leg) (j : ℕ) → Each (λ y. (leg_to leg == leg_to y) ≡ false) xs → slice_get xs j ≡ Some (record { sub = u; place = AtWork }) → (leg_to leg == u.consumer.0) ≡ false
    at [] j h f = cc
    at (x ∷ xs) zero h f = let is : x ≡ record { sub = u; place = AtWork } = cc in ap (λ (y : Leg). leg_to leg == leg_to y) (sym is) ∙ h.0
    at (x ∷ xs) (suc j) h f = at xs j h.1 f

-- All together

pub record IsWriting (topology : Topology) (before : History) (s : StageNo) (bytes : ℕ) (outcomes : List Outcome) (u : SubNo) (b i : ℕ) (ms : List ℕ) (legs : List Leg) : Type 0 where
  pub legal : is_legal topology (Wrote s bytes (Outcomes outcomes) ∷ before) ≡ true
  pub allowed : allows topology before (Wrote s bytes (Outcomes outcomes)) ≡ true
  pub known : s.0 ≤ length topology.stages
  pub here : u.consumer ≡ s
  pub fed : feeds topology u.producer u.consumer ≡ true
  pub last : last_take before s ≡ Some (u, 1)
  pub took : taken_units topology before s ≡ b ∷ []
  pub batch_is : batch topology before b ≡ Some (record { numbers = ms; place = Sent legs })
  pub leg : slice_get legs i ≡ Some (record { sub = u; place = AtWork })
  pub at : leg_place u (sent_on topology before b) ≡ i
  pub once : Apart leg_to legs
  pub few : length (sent_on topology before b) ≤ 64
  pub on : map (λ (x : Leg). x.sub) legs ≡ sent_on topology before b
  pub many : length outcomes ≡ length ms
  pub numbers : ms ≡ closed_numbers (closed_as topology before b)
  pub apart : Apart itself ms
  pub some : is_empty ms ≡ false
  pub inside : Each (λ n. place topology before n ≡ Some (InBatch (batch_no b))) ms

-- with the batch's messages and legs
pub record Written (topology : Topology) (before : History) (s : StageNo) (bytes : ℕ) (outcomes : List Outcome) (u : SubNo) (b : ℕ) : Type 0 where
  pub ms : List ℕ
  pub legs : List Leg
  pub is : IsWriting topology before s bytes outcomes u b (leg_place u (sent_on topology before b)) ms legs

weight_some : (a c : Bool) → 1 ≤ (if a then as_number c else 0) → (a ≡ true) × (c ≡ true)
weight_some true true h = (refl, refl)
weight_some true false h = absurd (omega arith)
weight_some false c h = absurd (omega arith)

single : (xs : List ℕ) (n : ℕ) → length xs ≤ 1 → among xs n ≡ true → xs ≡ n ∷ []
single [] n few h = cc
single (x ∷ []) n few h = by (x == n) refl h
  where
    by : (a : Bool) → (x == n) ≡ a → (a || false) ≡ true → x ∷ [] ≡ n ∷ []
    by true e h = ap (λ k. k ∷ []) (eqb-true x n e)
    by false e h = let wrong : false ≡ true = h in cc
single (x ∷ y ∷ xs) n few h = absurd (omega arith)

pub open_at : (legs : List Leg) (i : ℕ) (u : SubNo) → slice_get legs i ≡ Some (record { sub = u; place = AtWork }) → is_settled legs ≡ false
open_at [] i u e = cc
open_at (leg ∷ legs) zero u e = let is : leg ≡ record { sub = u; place = AtWork } = cc in ap (λ (x : Leg). not (is_leg_open x.place) && is_settled legs) is
open_at (leg ∷ legs) (suc i) u e = ap (λ c. not (is_leg_open leg.place) && c) (open_at legs i u e) ∙ none (not (is_leg_open leg.place))
  where
    none : (c : Bool) → (c && false) ≡ false
    none true = refl
    none false = refl

pub writing : (topology : Topology) (before : History) (s : StageNo) (bytes : ℕ) (outcomes : List Outcome) (u : SubNo) (k b : ℕ) → IsSound topology → is_legal topology before ≡ true → owed topology before ≡ None
    → allows topology before (Wrote s bytes (Outcomes outcomes)) ≡ true → last_take before s ≡ Some (u, k) → first_in (taken_units topology before s) ≡ b → Written topology before s bytes outcomes u b
writing topology before s bytes outcomes u k b sound h calm allowed last first =
    let facts : WroteFacts topology before s bytes (Outcomes outcomes) = wrote_facts topology before s bytes (Outcomes outcomes) allowed in
    let one = last_one topology before s u k sound h facts.role last in
    let t : TookBy (sent_to topology before s) (taken_units topology before s) (Some (u, k)) = subst (TookBy (sent_to topology before s) (taken_units topology before s)) last (took topology before s) in
    let works_on : Busy topology before s u k = busy topology before s u k h facts.live facts.current last in
    let w = some_weight (λ d. EntryFits topology before s d × WorksTaken topology before s d) (work_weight topology before u) (sent_to topology before s)
    (each_both (EntryFits topology before s) (WorksTaken topology before s) (sent_to topology before s) (entries_fit topology before s) (batch_work topology before s h facts.role facts.live (calm_batch topology before s calm)))
    (omega (arith, one.0, works_on.enough)) in
    let d = w.0 in
    let fit : EntryFits topology before s d = w.1.0 in
    let weighs = weight_some (same_sub d.0 u) (works topology before u d.1) w.2 in
    let sub : d.0 ≡ u = same_sub-true d.0 u weighs.0 in
    let batcher : is_batcher (spec_of topology u.producer) ≡ true =
    ap (λ (v : SubNo). is_batcher (spec_of topology v.producer)) (sym sub)
    ∙ rank_batcher (spec_of topology d.0.producer)
    (let down : rank topology s ≡ rank topology d.0.producer + 1 = feeds_down topology d.0.producer s fit.feeding in let here : rank topology s ≡ 3 = writer_rank topology s facts.role in omega (arith, down, here)) in
    let legged : leg_works_in u (batch topology before d.1) ≡ true = sym (ap (λ c. if c then leg_works_in u (batch topology before d.1) else runs_in u.consumer (place topology before d.1)) batcher) ∙ weighs.1 in
    let mine = (w.1.1 (ap (λ v. leg_works_in v (batch topology before d.1)) sub ∙ legged)).1 in
    let alone : taken_units topology before s ≡ d.1 ∷ [] = single (taken_units topology before s) d.1 (omega (arith, t.1, one.1)) mine in
    let no : d.1 ≡ b = sym (ap first_in alone) ∙ first in
    let o : IsWorked u (batch topology before b) = worked u (batch topology before b) (ap (λ n. leg_works_in u (batch topology before n)) (sym no) ∙ legged) in
    let once : Apart leg_to o.legs = subst BatchOnce o.is (legs_once topology before b (fits topology sound) h) in
    let on : map (λ (x : Leg). x.sub) o.legs ≡ sent_on topology before b = subst (IsOnSubs (sent_on topology before b)) o.is (legs_are_on topology before b h) in
    let leg = leg_index u o.legs o.works in
    let at : leg_place u (sent_on topology before b) ≡ leg.0 = ap (leg_place u) (sym on) ∙ index_is u o.legs leg.0 once leg.1 in
    let holds : BatchHolds topology before b (Some (record { numbers = o.ms; place = Sent o.legs })) = subst (BatchHolds topology before b) o.is (batch_holds topology before b h) in
    let inside = (holds (ap not (open_at o.legs leg.0 u leg.1))).each in
    let numbers : o.ms ≡ closed_numbers (closed_as topology before b) = sym (closed_is topology before b ∙ ap numbers_in o.is) in
    let given : batch_of topology before s ≡ messages_of before o.ms = ap (λ n. messages_of before (numbers_in (batch topology before n))) first ∙ ap (λ x. messages_of before (numbers_in x)) o.is in
    let counted = messages_length before o.ms (each_weaker (λ n. place topology before n ≡ Some (InBatch (batch_no b))) (λ n. is_some (content before n) ≡ true) (λ n p. placed_content topology before n (ap is_some p)) o.ms inside) in
    let many : length outcomes ≡ length o.ms = ends_count (spec_of topology s) (count topology before s) (batch_of topology before s) bytes outcomes facts.handled ∙ (ap length given ∙ counted) in
    let kk : k ≡ 1 = omega (arith, one.0, one.1) in
    let consumer : u.consumer ≡ s = works_on.there in
    record {
      ms = o.ms;
      legs = o.legs;
      is = record {
        legal = legal_after topology before (Wrote s bytes (Outcomes outcomes)) h allowed;
        allowed = allowed;
        known = (known_within topology s (numbered_topology topology sound) (live_known topology before s facts.live)).1;
        here = consumer;
        fed = ap (λ c. feeds topology u.producer c) consumer ∙ (ap (λ (v : SubNo). feeds topology v.producer s) (sym sub) ∙ fit.feeding);
        last = last ∙ ap (λ n. Some (u, n)) kk;
        took = alone ∙ ap (λ n. n ∷ []) no;
        batch_is = o.is;
        leg = ap (slice_get o.legs) at ∙ leg.1;
        at = refl;
        once = once;
        few = (let few = legs_few topology before b o.ms o.legs sound h o.is in omega (arith, few, length-map o.legs (λ (x : Leg). x.sub), ap length on));
        on = on;
        many = many;
        numbers = numbers;
        apart = subst (Apart itself) (sym numbers) (numbers_once topology before b h);
        some = (holds (ap not (open_at o.legs leg.0 u leg.1))).some;
        inside = inside;
      };
    }

-- a batch processor that may answer took something
pub took_before : (topology : Topology) (before : History) (s : StageNo) (bytes : ℕ) (outcomes : List Outcome) → is_legal topology before ≡ true → allows topology before (Wrote s bytes (Outcomes outcomes)) ≡ true → is_some (last_take before s) ≡ true
took_before topology before s bytes outcomes h allowed =
    let facts = wrote_facts topology before s bytes (Outcomes outcomes) allowed in
    took_some topology before s h facts.role (and_left (is_out before (post s 0)) _ facts.current)

-- The leg that is answered

-- the ends of the legs, that of the leg at work put in
pub ends_put : (s : StageNo) (outcomes : List Outcome) (u : SubNo) (legs : List Leg) (i : ℕ) → u.consumer ≡ s → Apart leg_to legs → slice_get legs i ≡ Some (record { sub = u; place = AtWork })
    → ends_of (on_legs (leg_answered s outcomes) legs) ≡ set (ends_of legs) i (Some (AnsweredEnd outcomes))
ends_put s outcomes u [] i here once e = cc
ends_put s outcomes u (leg ∷ legs) zero here once e =
    let is : leg ≡ record { sub = u; place = AtWork } = cc in
    let to : same_stage s u.consumer ≡ true = ap (same_stage s) here ∙ same_stage-self s in
    let first : end_of (leg_answered s outcomes leg.sub leg.place) ≡ Some (AnsweredEnd outcomes) = ap (λ (x : Leg). end_of (leg_answered s outcomes x.sub x.place)) is ∙ ap (λ c. end_of (if c then Answered outcomes else AtWork)) to in
    let to_leg : leg_to leg ≡ s.0 = ap leg_to is ∙ ap (λ (x : StageNo). x.0) here in
    λ i. first i ∷ rest_kept legs (each_weaker (λ y. (leg_to leg == leg_to y) ≡ false) (λ y. (s.0 == leg_to y) ≡ false) (λ y p. ap (λ k. k == leg_to y) (sym to_leg) ∙ p) legs once.0) i
  where
    kept : (v : SubNo) (p : LegPlace) → (s.0 == v.consumer.0) ≡ false → end_of (leg_answered s outcomes v p) ≡ end_of p
    kept v AtWork f = ap (λ c. end_of (if c then Answered outcomes else AtWork)) f
    kept v _ f = refl

    rest_kept : (xs : List Leg) → Each (λ y. (s.0 == leg_to y) ≡ false) xs → ends_of (on_legs (leg_answered s outcomes) xs) ≡ ends_of xs
    rest_kept [] h = refl
    rest_kept (x ∷ xs) h = λ i. kept x.sub x.place h.0 i ∷ rest_kept xs h.1 i
ends_put s outcomes u (leg ∷ legs) (suc i) here once e =
    let other : (s.0 == leg_to leg) ≡ false =
    false_from_ne_true (s.0 == leg_to leg) (λ same. clash (leg_to leg == s.0) (eq-eqb (leg_to leg) s.0 (sym (eqb-true s.0 (leg_to leg) same))) (far legs i once.0 e)) in
    let head = kept leg.sub leg.place other in
    let tail = ends_put s outcomes u legs i here once.1 e in
    λ j. head j ∷ tail j
  where
    kept : (v : SubNo) (p : LegPlace) → (s.0 == v.consumer.0) ≡ false → end_of (leg_answered s outcomes v p) ≡ end_of p
    kept v AtWork f = ap (λ c. end_of (if c then Answered outcomes else AtWork)) f
    kept v _ f = refl

    far : (xs : List Leg) (j : ℕ) → Each (λ y. (leg_to leg == leg_to y) ≡ false) xs → slice_get xs j ≡ Some (record { sub = u; place = AtWork }) → (leg_to leg == s.0) ≡ false
    far [] j h f = cc
    far (x ∷ xs) zero h f = let is : x ≡ record { sub = u; place = AtWork } = cc in ap (λ k. leg_to leg == k) (sym (ap leg_to is ∙ ap (λ (y : StageNo). y.0) here)) ∙ h.0
    far (x ∷ xs) (suc j) h f = far xs j h.1 f

-- and before it is answered it has no end
pub end_none : (legs : List Leg) (i : ℕ) (u : SubNo) → slice_get legs i ≡ Some (record { sub = u; place = AtWork }) → slice_get (ends_of legs) i ≡ Some None
end_none [] i u e = cc
end_none (leg ∷ legs) zero u e = let is : leg ≡ record { sub = u; place = AtWork } = cc in ap (λ (x : Leg). Some (end_of x.place)) is
end_none (leg ∷ legs) (suc i) u e = end_none legs i u e

-- the batch as the legs table has it
pub in_progress_as : (topology : Topology) (before : History) (s : StageNo) (bytes : ℕ) (outcomes : List Outcome) (u : SubNo) (b i : ℕ) (ms : List ℕ) (legs : List Leg) → IsWriting topology before s bytes outcomes u b i ms legs
    → ends_in_progress (batch topology before b) ≡ Some (record { messages = length ms; ends = ends_of legs })
in_progress_as topology before s bytes outcomes u b i ms legs g =
    ap ends_in_progress g.batch_is ∙ ap (λ c. if c then None else Some (record { messages = length ms; ends = ends_of legs })) (open_at legs i u g.leg)

pub write_within : (topology : Topology) (before : History) (s : StageNo) (bytes : ℕ) (outcomes : List Outcome) → IsSound topology → allows topology before (Wrote s bytes (Outcomes outcomes)) ≡ true → s.0 ≤ length topology.stages
write_within topology before s bytes outcomes sound allowed =
    (known_within topology s (numbered_topology topology sound) (live_known topology before s (wrote_facts topology before s bytes (Outcomes outcomes) allowed).live)).1
