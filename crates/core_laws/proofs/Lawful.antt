-- The laws that the core takes from the journal.
use Rattle.std.proofs.Common.{◌≡◌, ℕ, zero, suc, ◌+◌, ◌-◌, ◌<◌, ◌≤◌, List, [], ◌∷◌, ◌++◌, map, drop, take, replicate, length, Bool, true, false, refl, ap, sym, ◌∙◌, subst, Some, None, arith, All}
use Rattle.std.specs.Prelude.{if◌then◌else◌, ◌&&◌, ◌||◌, ◌==◌, not, filter}
use Rattle.std.specs.List.{enumerate_from}
use Rattle.std.proofs.lemmas.Bool.{false_from_ne_true}
use Rattle.std.proofs.lemmas.List.Kept.{AllPairs-cons}
use Rattle.std.proofs.lemmas.List.Elements.{All-cons, All-nil}
use Rattle.std.proofs.lemmas.Bool.Decides.{nat_tests}
use Rattle.pipe_types.specs.declared.numbers.SubNo.{SubNo}
use Rattle.pipe_types.specs.declared.numbers.StageNo.{StageNo}
use Rattle.pipe_types.specs.declared.topology.Topology.{Topology}
use Rattle.pipe_types.specs.declared.room.Room.{Room}
use Rattle.pipe_types.specs.declared.room.Sent.{Sent}
use Rattle.pipe_types.specs.declared.step.Step.{Step}
use Rattle.pipe_types.specs.declared.step.Step.TheVariants.{Dispatch, Take, Accept, Done, Wrote}
use Rattle.pipe_types.specs.declared.message.BatchEnd.TheVariants.{Crashed as BatchCrashed}
use Rattle.pipe_types.specs.Numbers.{same_stage, same_sub, sub_before}
use Rattle.pipe_types.specs.Stages.{spec_of, feeds}
use Rattle.pipe_types.specs.Sound.{IsSound}
use Rattle.pipe_types.specs.Rooms.{AreAscending}
use Rattle.pipe_types.specs.Dispatchers.{ByDemand, served_as, sends_by_place, sends_from, sends}
use Rattle.pipe_model.specs.History.{History, accepted, asked}
use Rattle.pipe_model.specs.Lives.{is_live, current_sub, live_subs}
use Rattle.pipe_model.specs.Content.{numbers_from, has_crash}
use Rattle.pipe_model.specs.Flow.{waiting, inbox, sent, view_of, rooms_by, deliveries, lost_over, units_on, subs_of, is_empty, among, mark_in, picks_by, alone, index_in, sent_to}
use Rattle.pipe_model.specs.Legal.{is_legal, allows, may_dispatch, has_role, is_processor_role, passes, owed, is_dispatch_of, is_crash_of, happened, is_halt}
use Rattle.pipe_laws.proofs.Tests.{clash, both, and_left, and_right, same_stage-true, same_stage-self, same_stage-flip, same_sub-self}
use Rattle.pipe_laws.proofs.Lists.{Each, each_weaker, each_map, each_always}
use Rattle.pipe_laws.proofs.Places.{IsOn, sends_on, sends_each}
use Rattle.pipe_laws.proofs.Numbers.{SubsAscendFrom, live_subs_ascend}
use Rattle.pipe_laws.proofs.Sounds.{sound_ascends}
use Rattle.pipe_laws.proofs.Chunks.{each_take}
use Rattle.pipe_laws.proofs.Demand.{sent_within}
use Rattle.pipe_laws.proofs.Allowed.{accept_live, take_facts}
use Rattle.pipe_laws.proofs.Entries.{EntryFits, entries_fit}
use Rattle.queue_laws.specs.Queues.{left_over}
use Rattle.queue_laws.specs.Queues.{without_first as law_without_first}
use Rattle.queue_laws.proofs.Alone.{none_alone}
use Rattle.queue_laws.proofs.Laws.{waiting_law, inbox_law, gathered_law}
use Rattle.queue_laws.proofs.Sounds.{fits}
use Rattle.queue_laws.proofs.Apart.{Apart, each_kept, each_mapped}
use Rattle.queue_laws.proofs.Delivered.{rooms_apart}
use Rattle.queue_laws.proofs.Singles.{demand_single}
use Rattle.queue_laws.proofs.Filters.{filter_alike}
use Rattle.core_tables.specs.Chunks.{without_first}
use Rattle.core_laws.specs.Laws.{Laws, IsSentWell, IsByDemand, DispatchLaws, TakeLaws, AcceptLaws}
use Rattle.pipe_model.specs.Standing.{in_inbox}
use Rattle.stage_laws.proofs.Runs.{runs_accepted, runs_dispatched, runs_taken_else, runs_idle, runs_taken}
use Rattle.stage_laws.proofs.Numbering.{numbered_topology}
use Rattle.stage_laws.proofs.Bounds.{waiting_few, waiting_within, waiting_apart, handled_few, entry_within}
use Rattle.stage_laws.proofs.Records.{accepted_small, accept_fits}
use Rattle.stage_laws.proofs.Firsts.{sends_first}

turned : (s t : StageNo) → (s.0 == t.0) ≡ false → same_stage t s ≡ false
turned s t e = false_from_ne_true (same_stage t s) (λ h. clash (same_stage s t) (same_stage-flip t s h) e)

pub each_all : {A : Type 0} (P : A → Type 0) (xs : List A) → Each P xs → All P xs
each_all P [] h = All-nil P
each_all P (x ∷ xs) h = All-cons P x xs h.0 (each_all P xs h.1)

pub legal_after : (topology : Topology) (before : History) (step : Step) → is_legal topology before ≡ true → allows topology before step ≡ true → is_legal topology (step ∷ before) ≡ true
legal_after topology before step h allowed = both (is_legal topology before) (allows topology before step) h allowed

-- Rooms

subs_above : (low : ℕ) (subs : List SubNo) → SubsAscendFrom low subs → Each (λ (v : SubNo). low < v.consumer.0) subs
subs_above low [] h = tt
subs_above low (u ∷ subs) h = (h.0, each_weaker (λ (v : SubNo). u.consumer.0 < v.consumer.0) (λ (v : SubNo). low < v.consumer.0) (λ v p. omega (arith, h.0, p)) subs (subs_above u.consumer.0 subs h.1))

before_by : (u v : SubNo) → u.consumer.0 < v.consumer.0 → sub_before u v ≡ true
before_by u v h = grind (arith, nat_tests)

rooms_ascend : (f : SubNo → Room) → ((u : SubNo) → (f u).sub ≡ u) → (low : ℕ) (subs : List SubNo) → SubsAscendFrom low subs → AreAscending (map f subs)
rooms_ascend f is low [] h = λ i j d lt below. absurd (omega arith)
rooms_ascend f is low (u ∷ subs) h =
    AllPairs-cons (λ (v : Room) (w : Room). sub_before v.sub w.sub ≡ true) (f u) (map f subs)
    (each_all (λ (w : Room). sub_before (f u).sub w.sub ≡ true) (map f subs)
    (each_map (λ (w : Room). sub_before (f u).sub w.sub ≡ true) f subs
    (each_weaker (λ (v : SubNo). u.consumer.0 < v.consumer.0) (λ v. sub_before (f u).sub (f v).sub ≡ true) (λ v p. λ i. (let one : sub_before (f u).sub (f v).sub ≡ true = ap (λ x. sub_before x (f v).sub) (is u) ∙ (ap (sub_before u) (is v) ∙ before_by u v p) in one) i) subs (subs_above u.consumer.0 subs h.1))))
    (rooms_ascend f is u.consumer.0 subs h.1)

ascending : (topology : Topology) (before : History) (s : StageNo) → IsSound topology → AreAscending (rooms_by topology before (view_of topology before) s)
ascending topology before s sound =
    rooms_ascend (λ u. record { sub = u; part = index_in (spec_of topology u.consumer); left = asked before u - sent topology before u }) (λ u. refl) 0 (live_subs topology before s)
    (live_subs_ascend topology before s 0 (sound_ascends topology sound))

-- Dispatch

pub dispatch_may : (topology : Topology) (before : History) (s : StageNo) → allows topology before (Dispatch s) ≡ true → may_dispatch topology before s ≡ true
dispatch_may topology before s h = by before (and_right (not (happened is_halt before) || false) _ h)
  where
    by : (before : History) → passes (owed topology before) (Dispatch s) (may_dispatch topology before s) ≡ true → may_dispatch topology before s ≡ true
    by (Accept t records ∷ before) h = either (may_dispatch topology (Accept t records ∷ before) t) refl h
      where
        either : (b : Bool) → may_dispatch topology (Accept t records ∷ before) t ≡ b → passes (if b then Some (is_dispatch_of t) else None) (Dispatch s) (may_dispatch topology (Accept t records ∷ before) s) ≡ true → may_dispatch topology (Accept t records ∷ before) s ≡ true
        either true e k = subst (λ x. may_dispatch topology (Accept t records ∷ before) x ≡ true) (same_stage-true t s k) e
        either false e k = k
    by (Done t replies ∷ before) h = either (has_crash replies) h
      where
        either : (b : Bool) → passes (if b then Some (is_crash_of t) else None) (Dispatch s) (may_dispatch topology (Done t replies ∷ before) s) ≡ true → may_dispatch topology (Done t replies ∷ before) s ≡ true
        either true k = cc
        either false k = k
    by (Wrote t bytes BatchCrashed ∷ before) h = cc
    by _ h = h

places_below : (k n : ℕ) → Each (λ (u : ℕ × ℕ). u.0 < k + n) (enumerate_from k (replicate {A = ℕ} n 0))
places_below k zero = tt
places_below k (suc n) = (omega arith, each_weaker (λ (u : ℕ × ℕ). u.0 < (k + 1) + n) (λ (u : ℕ × ℕ). u.0 < k + suc n) (λ u p. omega (arith, p)) (enumerate_from (k + 1) (replicate n 0)) (places_below (k + 1) n))

firsts_of : (part : ℕ → ℕ) (ns : List ℕ) → map (λ (u : ℕ × ℕ). u.0) (map {B = ℕ × ℕ} (λ n. (n, part n)) ns) ≡ ns
firsts_of part [] = refl
firsts_of part (n ∷ ns) = ap (λ ms. n ∷ ms) (firsts_of part ns)

units_apart : (part : ℕ → ℕ) (ns : List ℕ) → Apart (λ n. n) ns → Apart {A = ℕ × ℕ} (λ u. u.0) (map {B = ℕ × ℕ} (λ n. (n, part n)) ns)
units_apart part [] a = tt
units_apart part (n ∷ ns) a = (each_map (λ (u : ℕ × ℕ). (n == u.0) ≡ false) (λ m. (m, part m)) ns a.0, units_apart part ns a.1)

dropped : (topology : Topology) (before : History) (s : StageNo) → IsSound topology → is_legal topology before ≡ true → IsByDemand topology before s
    → left_over (deliveries topology before s) (lost_over topology before (view_of topology before) s) (alone topology before s) (waiting topology before s) ≡ drop (length (deliveries topology before s)) (waiting topology before s)
dropped topology before s sound h by =
    let fit = fits topology sound in
    let part : ℕ → ℕ = mark_in before (view_of topology before) (spec_of topology s) in
    let rooms : List Room = rooms_by topology before (view_of topology before) s in
    let ns : List ℕ = waiting topology before s in
    let ds : deliveries topology before s ≡ sends_from ByDemand rooms [] (map {B = ℕ × ℕ} (λ n. (n, part n)) ns) = ap (λ k. sends (served_as k (picks_by topology before (view_of topology before))) rooms (map {B = ℕ × ℕ} (λ n. (n, part n)) ns)) by.kind in
    let known = sends_first rooms (demand_single rooms (rooms_apart topology before s fit.ascend)) [] (map {B = ℕ × ℕ} (λ n. (n, part n)) ns) (units_apart part ns (waiting_apart topology before s fit h)) in
    ap (λ over. left_over (deliveries topology before s) over (alone topology before s) (waiting topology before s)) by.fits
    ∙ ap (λ lone. left_over (deliveries topology before s) [] lone (waiting topology before s)) (none_alone topology before s by.messages)
    ∙ (filter_alike (λ n. is_empty (subs_of (deliveries topology before s) n)) (λ n. is_empty (subs_of (deliveries topology before s) n) && (not (among [] n) && not (among [] n))) (λ n. and_same (is_empty (subs_of (deliveries topology before s) n))) (waiting topology before s)
    ∙ subst (λ (xs : List Sent). filter (λ n. is_empty (subs_of xs n)) (waiting topology before s) ≡ drop (length xs) (waiting topology before s)) (sym ds)
    (subst (λ (ms : List ℕ). filter (λ n. is_empty (subs_of (sends_from ByDemand rooms [] (map {B = ℕ × ℕ} (λ n. (n, part n)) ns)) n)) ms ≡ drop (length (sends_from ByDemand rooms [] (map {B = ℕ × ℕ} (λ n. (n, part n)) ns))) ms) (firsts_of part ns) known))
  where
    and_same : (b : Bool) → (b && true) ≡ b
    and_same true = refl
    and_same false = refl

sent_well : (topology : Topology) (before : History) (s : StageNo) → is_live topology before s ≡ true → (d : Sent) → IsOn topology before s d.sub × ((1 ≤ d.unit) × (d.unit ≤ accepted before)) → IsSentWell topology before d
sent_well topology before s live d p =
    let from : d.sub.producer ≡ s = ap (λ (x : SubNo). x.producer) p.0.current in
    record {
      live =
          both (feeds topology d.sub.producer d.sub.consumer) _ (ap (λ x. feeds topology x d.sub.consumer) from ∙ p.0.feeding)
          (both (is_live topology before d.sub.producer) _ (ap (is_live topology before) from ∙ live)
          (both (is_live topology before d.sub.consumer) _ p.0.live
          (ap (same_sub d.sub) (ap (current_sub topology before d.sub.consumer) from ∙ sym p.0.current) ∙ same_sub-self d.sub)));
      numbered = record { least = p.1.0; most = p.1.1 };
    }

dispatch_laws : (topology : Topology) (before : History) (s : StageNo) → IsSound topology → is_legal topology before ≡ true → allows topology before (Dispatch s) ≡ true → DispatchLaws topology before s
dispatch_laws topology before s sound h allowed =
    let fit = fits topology sound in
    let after = legal_after topology before (Dispatch s) h allowed in
    let live = and_left (is_live topology before s) _ (dispatch_may topology before s allowed) in
    record {
      inbox = λ c. inbox_law topology before (Dispatch s) c sound after;
      waiting_here = λ by.
          waiting_law topology before (Dispatch s) s sound after
          ∙ (ap (λ b. if b then left_over (deliveries topology before s) (lost_over topology before (view_of topology before) s) (alone topology before s) (waiting topology before s) else waiting topology before s) (same_stage-self s)
          ∙ dropped topology before s sound h by);
      waiting_else = λ t other.
          waiting_law topology before (Dispatch s) t sound after
          ∙ ap (λ b. if b then left_over (deliveries topology before s) (lost_over topology before (view_of topology before) s) (alone topology before s) (waiting topology before t) else waiting topology before t) (turned s t other);
      running = λ t. runs_dispatched topology before s t fit h;
      gathered = λ t. gathered_law topology before (Dispatch s) t after;
      well = each_all (IsSentWell topology before) (deliveries topology before s)
          (each_weaker (λ d. IsOn topology before s d.sub × ((1 ≤ d.unit) × (d.unit ≤ accepted before))) (IsSentWell topology before) (sent_well topology before s live) (deliveries topology before s)
          (sends_on topology before s (λ n. (1 ≤ n) × (n ≤ accepted before)) (waiting_within topology before s fit h)));
      asked_for = λ u. sent_within topology (Dispatch s ∷ before) u fit.ascend;
      live = live;
      places = each_all (λ d. d.unit < length (waiting topology before s)) (sends_by_place ByDemand (rooms_by topology before (view_of topology before) s) (replicate (length (waiting topology before s)) 0))
          (each_weaker (λ (d : Sent). Unit {0} × (d.unit < length (waiting topology before s))) (λ (d : Sent). d.unit < length (waiting topology before s)) (λ d p. p.1) (sends_by_place ByDemand (rooms_by topology before (view_of topology before) s) (replicate (length (waiting topology before s)) 0))
          (sends_each (λ u. Unit {0}) (λ n. n < length (waiting topology before s)) ByDemand (rooms_by topology before (view_of topology before) s) [] (enumerate_from 0 (replicate (length (waiting topology before s)) 0))
          (each_always (λ r. Unit {0}) (λ r. tt) (rooms_by topology before (view_of topology before) s))
          (each_weaker (λ (u : ℕ × ℕ). u.0 < 0 + length (waiting topology before s)) (λ (u : ℕ × ℕ). u.0 < length (waiting topology before s)) (λ u p. omega (arith, p)) (enumerate_from 0 (replicate (length (waiting topology before s)) 0)) (places_below 0 (length (waiting topology before s))))));
    }

-- Take

same_without : (k : ℕ) (u : SubNo) (xs : List (SubNo × ℕ)) → law_without_first k u xs ≡ without_first u k xs
same_without zero u [] = refl
same_without (suc k) u [] = refl
same_without zero u (d ∷ xs) = refl
same_without (suc k) u (d ∷ xs) = either (same_sub d.0 u) (same_without k u xs) (same_without (suc k) u xs)
  where
    either : (b : Bool) → law_without_first k u xs ≡ without_first u k xs → law_without_first (suc k) u xs ≡ without_first u (suc k) xs
        → (if b then law_without_first k u xs else d ∷ law_without_first (suc k) u xs) ≡ (if b then without_first u k xs else d ∷ without_first u (suc k) xs)
    either true one other = one
    either false one other = ap (λ ys. d ∷ ys) other

each_take_units : (P : ℕ → Type 0) (k : ℕ) (u : SubNo) (xs : List (SubNo × ℕ)) → Each (λ (d : SubNo × ℕ). P d.1) xs → Each P (take k (units_on u xs))
each_take_units P k u xs h = each_take P k (units_on u xs) (each_mapped P (λ (d : SubNo × ℕ). d.1) (filter (λ d. same_sub d.0 u) xs) (each_kept (λ (d : SubNo × ℕ). P d.1) (λ d. same_sub d.0 u) xs h))

inbox_within : (topology : Topology) (before : History) (c : StageNo) → is_legal topology before ≡ true → Each (λ (d : SubNo × ℕ). (1 ≤ d.1) × (d.1 ≤ accepted before)) (inbox topology before c)
inbox_within topology before c h =
    each_kept (λ (d : SubNo × ℕ). (1 ≤ d.1) × (d.1 ≤ accepted before)) (in_inbox topology before) (sent_to topology before c)
    (each_weaker (EntryFits topology before c) (λ (d : SubNo × ℕ). (1 ≤ d.1) × (d.1 ≤ accepted before)) (λ d fits. entry_within topology before c d h fits) (sent_to topology before c) (entries_fit topology before c))

take_laws : (topology : Topology) (before : History) (s : StageNo) (u : SubNo) (k : ℕ) → IsSound topology → is_legal topology before ≡ true → has_role topology s is_processor_role ≡ true → allows topology before (Take s u k) ≡ true → TakeLaws topology before s u k
take_laws topology before s u k sound h role allowed =
    let fit = fits topology sound in
    let after = legal_after topology before (Take s u k) h allowed in
    let facts = take_facts topology before s u k allowed in
    record {
      live = facts.live;
      idle = runs_idle topology before s u k fit h role allowed;
      inbox_here = inbox_law topology before (Take s u k) s sound after ∙ (ap (λ b. if b then law_without_first k u (inbox topology before s) else inbox topology before s) (same_stage-self s) ∙ same_without k u (inbox topology before s));
      inbox_else = λ t other. inbox_law topology before (Take s u k) t sound after ∙ ap (λ b. if b then law_without_first k u (inbox topology before t) else inbox topology before t) (turned s t other);
      waiting = λ t. waiting_law topology before (Take s u k) t sound after;
      running_here = runs_taken topology before s u k fit h role allowed;
      running_else = λ t other. runs_taken_else topology before s t u k (turned s t other);
      gathered = λ t. gathered_law topology before (Take s u k) t after;
      numbered = each_all (λ n. (1 ≤ n) × (n ≤ accepted before)) (take k (units_on u (inbox topology before s))) (each_take_units (λ n. (1 ≤ n) × (n ≤ accepted before)) k u (inbox topology before s) (inbox_within topology before s h));
    }

-- Accept

accept_laws : (topology : Topology) (before : History) (s : StageNo) (records : List (List ℕ)) → IsSound topology → is_legal topology before ≡ true → allows topology before (Accept s records) ≡ true → AcceptLaws topology before s records
accept_laws topology before s records sound h allowed =
    let after = legal_after topology before (Accept s records) h allowed in
    record {
      live = accept_live topology before s records allowed;
      waiting_here = waiting_law topology before (Accept s records) s sound after ∙ ap (λ b. if b then waiting topology before s ++ numbers_from (accepted before + 1) records else waiting topology before s) (same_stage-self s);
      waiting_else = λ t other. waiting_law topology before (Accept s records) t sound after ∙ ap (λ b. if b then waiting topology before t ++ numbers_from (accepted before + 1) records else waiting topology before t) (turned s t other);
      inbox = λ t. inbox_law topology before (Accept s records) t sound after;
      running = λ t. runs_accepted topology before s t records;
      gathered = λ t. gathered_law topology before (Accept s records) t after;
      fits = accept_fits topology before s records sound h allowed;
    }

pub lawful : Laws
lawful =
    record {
      accept = accept_laws;
      handled = λ topology before u sound h. handled_few topology before u (fits topology sound) h;
      take = take_laws;
      small = accepted_small;
      few = λ topology before s sound h. waiting_few topology before s (fits topology sound) h;
      ascending = ascending;
      numbered = numbered_topology;
      dispatch = dispatch_laws;
    }
