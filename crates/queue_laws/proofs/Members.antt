-- What has a place stands in that queue, and stands there once.
use Rattle.std.proofs.Common.{◌≡◌, ℕ, List, [], ◌∷◌, map, Bool, true, false, refl, ap, sym, ◌∙◌, subst, Some, None, Option}
use Rattle.std.specs.Prelude.{if◌then◌else◌, ◌==◌, ◌&&◌, ◌||◌, not, filter, cond}
use Rattle.std.proofs.lemmas.Bool.{eqb-true, eq-eqb, false_from_ne_true}
use Rattle.pipe_types.specs.declared.numbers.SubNo.{SubNo}
use Rattle.pipe_types.specs.declared.numbers.StageNo.{StageNo}
use Rattle.pipe_types.specs.declared.topology.Topology.{Topology}
use Rattle.pipe_types.specs.declared.message.Place.{Place}
use Rattle.pipe_types.specs.declared.message.Place.TheVariants.{Waiting, Inbox, Running, Gathered, InBatch}
use Rattle.pipe_types.specs.Numbers.{same_sub, batch_no}
use Rattle.pipe_types.specs.Stages.{spec_of}
use Rattle.pipe_model.specs.History.{History}
use Rattle.pipe_model.specs.Content.{gathers, arrivals}
use Rattle.pipe_model.specs.Batches.{Batch, BatchPlace, AtBatcher, Sent, Dropped, Leg, LegPlace}
use Rattle.pipe_model.specs.Flow.{place, batch, sent_to, waiting, is_empty, among, numbers_in, is_batcher, runs_in, waits_in, is_gathered_in, batch_waits_in, leg_waits, leg_waits_in}
use Rattle.pipe_model.specs.Standing.{running, gathered_in, in_inbox, has_entry, leg_works, leg_works_in, in_progress, is_once, StandsInQueue, BatchStandsInQueue, HoldsEachOnce, HoldsItsMessages}
use Rattle.pipe_model.specs.Legal.{is_legal}
use Rattle.pipe_laws.proofs.Tests.{clash, both, and_left, and_right, same_stage-true, same_stage-self, same_sub-true, same_sub-self}
use Rattle.pipe_laws.proofs.Lists.{Each, each_among}
use Rattle.queue_laws.proofs.Apart.{Apart, apart_kept, apart_mapped}
use Rattle.queue_laws.proofs.Fits.{Fits}
use Rattle.queue_laws.proofs.Distinct.{Distinct, distinct, itself, unit_of}
use Rattle.queue_laws.proofs.Listed.{ListedAt, listed}
use Rattle.queue_laws.proofs.Batched.{BatchListed, PlaceListed, LegListed, batch_listed, BatchHolds, batch_holds}
use Rattle.queue_laws.proofs.Gathering.{gathers_once}

-- Lists

pub among_kept : (test : ℕ → Bool) (xs : List ℕ) (n : ℕ) → among xs n ≡ true → test n ≡ true → among (filter test xs) n ≡ true
among_kept test [] n h t = h
among_kept test (x ∷ xs) n h t = either (x == n) refl h (test x) refl (among_kept test xs n)
  where
    either : (b : Bool) → (x == n) ≡ b → (b || among xs n) ≡ true → (c : Bool) → test x ≡ c → (among xs n ≡ true → test n ≡ true → among (filter test xs) n ≡ true) → among (cond c (x ∷ filter test xs) (filter test xs)) n ≡ true
    either true e h true ec rest = rw e refl
    either true e h false ec rest = clash (test x) (ap test (eqb-true x n e) ∙ t) ec
    either false e h true ec rest = rw e (rest h t)
    either false e h false ec rest = rest h t

pub entry_kept : (test : SubNo × ℕ → Bool) (xs : List (SubNo × ℕ)) (u : SubNo) (n : ℕ) → has_entry u n xs ≡ true → test (u, n) ≡ true → has_entry u n (filter test xs) ≡ true
entry_kept test [] u n h t = h
entry_kept test (d ∷ xs) u n h t = either (same_sub d.0 u && d.1 == n) refl h (test d) refl (entry_kept test xs u n)
  where
    either : (b : Bool) → (same_sub d.0 u && d.1 == n) ≡ b → (b || has_entry u n xs) ≡ true → (c : Bool) → test d ≡ c → (has_entry u n xs ≡ true → test (u, n) ≡ true → has_entry u n (filter test xs) ≡ true) → has_entry u n (cond c (d ∷ filter test xs) (filter test xs)) ≡ true
    either true e h true ec rest = rw e refl
    either true e h false ec rest =
        let sub : d.0 ≡ u = same_sub-true d.0 u (and_left (same_sub d.0 u) _ e) in
        let no : d.1 ≡ n = eqb-true d.1 n (and_right (same_sub d.0 u) _ e) in
        clash (test d) ((λ i. test (sub i, no i)) ∙ t) ec
    either false e h true ec rest = rw e (rest h t)
    either false e h false ec rest = rest h t

not_among : (n : ℕ) (ns : List ℕ) → Each (λ m. (n == m) ≡ false) ns → among ns n ≡ false
not_among n [] h = refl
not_among n (m ∷ ns) h = rw (false_from_ne_true (m == n) (λ e. clash (n == m) (eq-eqb n m (sym (eqb-true m n e))) h.0)) (not_among n ns h.1)

pub apart_once : (ns : List ℕ) → Apart itself ns → is_once ns ≡ true
apart_once [] h = refl
apart_once (n ∷ ns) h = both (not (among ns n)) (is_once ns) (ap not (not_among n ns h.0)) (apart_once ns h.1)

-- Messages

pub stands_in_queue : (topology : Topology) (before : History) (n : ℕ) → Fits topology → is_legal topology before ≡ true → StandsInQueue topology before n
stands_in_queue topology before n fit h =
    record {
      waits = λ s e.
          let at : ListedAt topology before n (Some (Waiting s)) = found (Some (Waiting s)) e in
          among_kept (λ m. if is_batcher (spec_of topology s) then batch_waits_in s (batch topology before m) else waits_in s (place topology before m)) (arrivals before s) n at.1 (rw (at.0, e) (same_stage-self s));
      stands = λ u e.
          let at : ListedAt topology before n (Some (Inbox u)) = found (Some (Inbox u)) e in
          entry_kept (in_inbox topology before) (sent_to topology before u.consumer) u n at.1 (rw (at.0, e) (same_sub-self u));
      runs = λ s e.
          among_kept (λ m. runs_in s (place topology before m)) (map (λ d. d.1) (sent_to topology before s)) n (found (Some (Running s)) e) (rw e (same_stage-self s));
      gathers = λ s e.
          among_kept (λ m. is_gathered_in s (place topology before m)) (gathers before s) n (found (Some (Gathered s)) e) (rw e (same_stage-self s));
    }
  where
    found : (p : Option Place) → place topology before n ≡ p → ListedAt topology before n p
    found p e = subst (ListedAt topology before n) e (listed topology before n fit h)

-- Batches

-- a leg on the subscription was sent on it
abbrev pub SentOn : Topology → History → SubNo → ℕ → Type 0
SentOn topology before u b = (is_batcher (spec_of topology u.producer) ≡ true) × (has_entry u b (sent_to topology before u.consumer) ≡ true)

leg_sent : (topology : Topology) (before : History) (b : ℕ) (u : SubNo) (leg : Leg) → same_sub u leg.sub ≡ true → LegListed topology before b leg → SentOn topology before u b
leg_sent topology before b u leg e l = subst (λ v. SentOn topology before v b) (sym (same_sub-true u leg.sub e)) (l.batcher, l.entry)

-- a test that a list passes by its first leg on the subscription was passed by one that was sent
some_sent : (topology : Topology) (before : History) (b : ℕ) (u : SubNo) (test : List Leg → Bool) → test [] ≡ false
    → ((v : SubNo) (p : LegPlace) (legs : List Leg) → same_sub u v ≡ false → test (record { sub = v; place = p } ∷ legs) ≡ true → test legs ≡ true)
    → (legs : List Leg) → Each (LegListed topology before b) legs → test legs ≡ true → SentOn topology before u b
some_sent topology before b u test none skip [] each h = clash (test []) h none
some_sent topology before b u test none skip (leg ∷ legs) each h = by_sub (same_sub u leg.sub) refl h (some_sent topology before b u test none skip legs each.1)
  where
    by_sub : (s : Bool) → same_sub u leg.sub ≡ s → test (leg ∷ legs) ≡ true → (test legs ≡ true → SentOn topology before u b) → SentOn topology before u b
    by_sub true e h rest = leg_sent topology before b u leg e each.0
    by_sub false e h rest = rest (skip leg.sub leg.place legs e h)

waits_sent : (topology : Topology) (before : History) (b : ℕ) (u : SubNo) (legs : List Leg) → Each (LegListed topology before b) legs → leg_waits u legs ≡ true → SentOn topology before u b
waits_sent topology before b u legs each h = some_sent topology before b u (leg_waits u) refl (λ v p legs e k. rw e at k) legs each h

works_sent : (topology : Topology) (before : History) (b : ℕ) (u : SubNo) (legs : List Leg) → Each (LegListed topology before b) legs → leg_works u legs ≡ true → SentOn topology before u b
works_sent topology before b u legs each h = some_sent topology before b u (leg_works u) refl (λ v p legs e k. rw e at k) legs each h

pub batch_stands_in_queue : (topology : Topology) (before : History) (b : ℕ) → is_legal topology before ≡ true → BatchStandsInQueue topology before b
batch_stands_in_queue topology before b h =
    record {
      waits = λ s e. let at = waits_at s (batch topology before b) lists e in
          among_kept (λ m. if is_batcher (spec_of topology s) then batch_waits_in s (batch topology before m) else waits_in s (place topology before m)) (arrivals before s) b at.1 (rw at.0 e);
      stands = λ u e. let at = leg_at u (batch topology before b) lists e in
          entry_kept (in_inbox topology before) (sent_to topology before u.consumer) u b at.1 (rw at.0 e);
      works = λ u e. let at = work_at u (batch topology before b) lists e in
          entry_kept (λ d. leg_works_in d.0 (batch topology before d.1)) (sent_to topology before u.consumer) u b at.1 e;
    }
  where
    lists : BatchListed topology before b (batch topology before b)
    lists = batch_listed topology before b h

    waits_at : (s : StageNo) (o : Option Batch) → BatchListed topology before b o → batch_waits_in s o ≡ true → (is_batcher (spec_of topology s) ≡ true) × (among (arrivals before s) b ≡ true)
    waits_at s None l e = cc
    waits_at s (Some x) l e = by_place x.numbers x.place l e
      where
        by_place : (numbers : List ℕ) (p : BatchPlace) → PlaceListed topology before b p → batch_waits_in s (Some (record { numbers = numbers; place = p })) ≡ true → (is_batcher (spec_of topology s) ≡ true) × (among (arrivals before s) b ≡ true)
        by_place numbers (AtBatcher t) l e = subst (λ v. (is_batcher (spec_of topology v) ≡ true) × (among (arrivals before v) b ≡ true)) (sym (same_stage-true s t e)) l
        by_place numbers (Sent legs) l e = let x : false ≡ true = e in cc
        by_place numbers (Dropped loss) l e = let x : false ≡ true = e in cc

    leg_at : (u : SubNo) (o : Option Batch) → BatchListed topology before b o → leg_waits_in u o ≡ true → SentOn topology before u b
    leg_at u None l e = cc
    leg_at u (Some x) l e = by_place x.numbers x.place l e
      where
        by_place : (numbers : List ℕ) (p : BatchPlace) → PlaceListed topology before b p → leg_waits_in u (Some (record { numbers = numbers; place = p })) ≡ true → SentOn topology before u b
        by_place numbers (AtBatcher t) l e = let x : false ≡ true = e in cc
        by_place numbers (Sent legs) l e = waits_sent topology before b u legs l e
        by_place numbers (Dropped loss) l e = let x : false ≡ true = e in cc

    work_at : (u : SubNo) (o : Option Batch) → BatchListed topology before b o → leg_works_in u o ≡ true → SentOn topology before u b
    work_at u None l e = cc
    work_at u (Some x) l e = by_place x.numbers x.place l e
      where
        by_place : (numbers : List ℕ) (p : BatchPlace) → PlaceListed topology before b p → leg_works_in u (Some (record { numbers = numbers; place = p })) ≡ true → SentOn topology before u b
        by_place numbers (AtBatcher t) l e = let x : false ≡ true = e in cc
        by_place numbers (Sent legs) l e = works_sent topology before b u legs l e
        by_place numbers (Dropped loss) l e = let x : false ≡ true = e in cc

pub holds_its_messages : (topology : Topology) (before : History) (b : ℕ) → is_legal topology before ≡ true → HoldsItsMessages topology before b
holds_its_messages topology before b h = record { some = by_some (batch topology before b) holds; each = by_each (batch topology before b) holds }
  where
    holds : BatchHolds topology before b (batch topology before b)
    holds = batch_holds topology before b h

    by_some : (o : Option Batch) → BatchHolds topology before b o → in_progress o ≡ true → is_empty (numbers_in o) ≡ false
    by_some None l e = cc
    by_some (Some x) l e = (l e).some

    by_each : (o : Option Batch) → BatchHolds topology before b o → in_progress o ≡ true → (n : ℕ) → among (numbers_in o) n ≡ true → place topology before n ≡ Some (InBatch (batch_no b))
    by_each None l e = λ n a. cc
    by_each (Some x) l e = λ n a. each_among (λ m. place topology before m ≡ Some (InBatch (batch_no b))) x.numbers n (l e).each a

-- Each once

pub holds_each_once : (topology : Topology) (before : History) (s : StageNo) → Fits topology → is_legal topology before ≡ true → HoldsEachOnce topology before s
holds_each_once topology before s fit h =
    record {
      waits = apart_once (waiting topology before s) (apart_kept itself (λ n. if is_batcher (spec_of topology s) then batch_waits_in s (batch topology before n) else waits_in s (place topology before n)) (arrivals before s) (all.once s));
      stands = sent_once (in_inbox topology before);
      runs = apart_once (running topology before s) (apart_kept itself (λ n. runs_in s (place topology before n)) (map (λ d. d.1) (sent_to topology before s)) (apart_mapped itself (λ d. d.1) (sent_to topology before s) (all.sent s)));
      gathers = apart_once (gathered_in topology before s) (apart_kept itself (λ n. is_gathered_in s (place topology before n)) (gathers before s) (gathers_once topology before s h));
      works = sent_once (λ d. leg_works_in d.0 (batch topology before d.1));
    }
  where
    all : Distinct topology before
    all = distinct topology before fit.ascend h

    sent_once : (test : SubNo × ℕ → Bool) → is_once (map (λ d. d.1) (filter test (sent_to topology before s))) ≡ true
    sent_once test = apart_once (map (λ d. d.1) (filter test (sent_to topology before s))) (apart_mapped itself (λ d. d.1) (filter test (sent_to topology before s)) (apart_kept unit_of test (sent_to topology before s) (all.sent s)))
