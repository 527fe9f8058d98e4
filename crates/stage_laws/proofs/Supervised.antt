-- What runs in a supervisor once a child starts or ends.
use Rattle.std.proofs.Common.{append_assoc, ◌≡◌, ℕ, ◌≤◌, List, [], ◌∷◌, ◌++◌, map, Bool, true, false, refl, ap, sym, ◌∙◌, subst, Some, None, Option, arith}
use Rattle.std.specs.Prelude.{if◌then◌else◌, ◌&&◌, ◌||◌, ◌==◌, not, filter, cond, option_map, is_some, drop}
use Rattle.std.proofs.lemmas.Bool.{eqb-true, eq-eqb, false_from_ne_true}
use Rattle.std.proofs.lemmas.List.{append-nil, map-append}
use Rattle.pipe_types.specs.declared.numbers.SubNo.{SubNo}
use Rattle.pipe_types.specs.declared.numbers.StageNo.{StageNo}
use Rattle.pipe_types.specs.declared.numbers.MsgNo.{MsgNo}
use Rattle.pipe_types.specs.declared.topology.Topology.{Topology}
use Rattle.pipe_types.specs.declared.topology.Role.{Role}
use Rattle.pipe_types.specs.declared.topology.Role.TheVariants.{Supervisor}
use Rattle.pipe_types.specs.declared.message.Loss.TheVariants.{Killed}
use Rattle.pipe_types.specs.declared.message.Why.TheVariants.{Crash}
use Rattle.pipe_types.specs.declared.message.Place.{Place}
use Rattle.pipe_types.specs.declared.message.Place.TheVariants.{Inbox, Running, Lost}
use Rattle.pipe_types.specs.declared.message.Reply.{Reply}
use Rattle.pipe_types.specs.declared.message.Reply.TheVariants.{Pass, Failed as FailedReply, Raised, Crashed}
use Rattle.pipe_types.specs.declared.step.Step.{Step}
use Rattle.pipe_types.specs.declared.step.Step.TheVariants.{Dispatch, Take, Gather, Child, ChildEnd, Kill, Halt}
use Rattle.pipe_types.specs.Numbers.{same_stage}
use Rattle.pipe_types.specs.Stages.{spec_of}
use Rattle.pipe_model.specs.History.{History, incarnation}
use Rattle.pipe_model.specs.Posts.{in_slot, crashes}
use Rattle.pipe_model.specs.Lives.{reason_in, kill_set}
use Rattle.pipe_model.specs.Ledger.{crashed_reply, crashes_of}
use Rattle.pipe_model.specs.Flow.{place, batch, inbox, sent_to, is_batcher, runs_in, runs_again, in_inbox_by, leg_waits_in, is_number, among, taken, child_ended, child_place, deliveries, delivered_to}
use Rattle.pipe_model.specs.Legal.{is_legal, has_role, is_supervisor_role, is_batcher_role, takes_role, first_unit, runs_number}
use Rattle.pipe_model.specs.Standing.{running, in_inbox}
use Rattle.pipe_laws.proofs.Tests.{clash, same_stage-true, same_stage-self}
use Rattle.pipe_laws.proofs.Lists.{Each, each_always, each_weaker, each_filter, each_map}
use Rattle.pipe_laws.proofs.Entries.{EntryFits, entries_fit}
use Rattle.pipe_laws.proofs.Busy.{inbox_here, two_roles}
use Rattle.pipe_laws.proofs.Idle.{fed_by_messages}
use Rattle.pipe_laws.proofs.Kept.{runs_here}
use Rattle.pipe_laws.proofs.Slots.{supervisor_writes, first_stands, number_is, supervisor_takes}
use Rattle.pipe_laws.proofs.Allowed.{legal_before, legal_step, take_facts, gather_facts, ChildFacts, child_facts}
use Rattle.queue_laws.specs.Queues.{without_number, inbox_after}
use Rattle.queue_laws.proofs.Filters.{filter_alike, filter_both, filter_all}
use Rattle.queue_laws.proofs.Fits.{Fits}
use Rattle.queue_laws.proofs.Apart.{Apart, apart_kept}
use Rattle.queue_laws.proofs.Distinct.{distinct, unit_of}
use Rattle.queue_laws.proofs.Inbox.{inbox_step}
use Rattle.queue_laws.proofs.Inboxes.{without_head}
use Rattle.queue_laws.proofs.Members.{stands_in_queue}
use Rattle.stage_laws.specs.Running.{stops_running, without_slot}

abbrev numbers : Topology → History → StageNo → List ℕ
numbers topology before s = map (λ d. d.1) (sent_to topology before s)

-- ---- what stands in the inbox was sent after all that left it

pub record Split (topology : Topology) (before : History) (s : StageNo) : Type 0 where
  pub gone : List (SubNo × ℕ)
  pub is : sent_to topology before s ≡ gone ++ inbox topology before s

supervisor_gathers : (role : Role) → is_supervisor_role role ≡ true → is_batcher_role role ≡ true → ⊥
supervisor_gathers Supervisor h k = let x : false ≡ true = k in cc
supervisor_gathers _ h k = let x : false ≡ true = h in cc

-- a message stands in the supervisor's inbox by its place
inbox_places : (topology : Topology) (before : History) (s : StageNo) → has_role topology s is_supervisor_role ≡ true → Each (λ d. place topology before d.1 ≡ Some (Inbox d.0)) (inbox topology before s)
inbox_places topology before s role =
    each_weaker (λ d. EntryFits topology before s d × (in_inbox topology before d ≡ true)) (λ d. place topology before d.1 ≡ Some (Inbox d.0)) here (inbox topology before s)
    (each_filter (EntryFits topology before s) (in_inbox topology before) (sent_to topology before s) (entries_fit topology before s))
  where
    here : (d : SubNo × ℕ) → EntryFits topology before s d × (in_inbox topology before d ≡ true) → place topology before d.1 ≡ Some (Inbox d.0)
    here d p =
        let plain : is_batcher (spec_of topology d.0.producer) ≡ false = fed_by_messages topology d.0.producer s is_supervisor_role supervisor_writes p.0.feeding role in
        inbox_here d.0 (place topology before d.1)
        (subst (λ b. (if b then leg_waits_in d.0 (batch topology before d.1) else in_inbox_by d.0 (place topology before d.1)) ≡ true) plain p.1)

-- the supervisor's child takes the first unit, or none
pub child_takes : (topology : Topology) (before : History) (s : StageNo) (m : MsgNo) (slot : ℕ) → Fits topology → is_legal topology (Child s m slot ∷ before) ≡ true
    → without_number m.0 (inbox topology before s) ≡ (if runs_number topology before s (in_slot before s slot) then inbox topology before s else drop 1 (inbox topology before s))
child_takes topology before s m slot fit h = either (runs_number topology before s (in_slot before s slot)) refl
  where
    facts : ChildFacts topology before s m.0 slot
    facts = child_facts topology before s m slot (legal_step topology before (Child s m slot) h)

    stands : place topology before m.0 ≡ Some (Running s) → (d : SubNo × ℕ) → place topology before d.1 ≡ Some (Inbox d.0) → not (m.0 == d.1) ≡ true
    stands ran d e =
        ap not (false_from_ne_true (m.0 == d.1) (λ same. let both_at : Some (Running s) ≡ Some (Inbox d.0) = sym ran ∙ (ap (place topology before) (eqb-true m.0 d.1 same) ∙ e) in cc))

    either : (b : Bool) → runs_number topology before s (in_slot before s slot) ≡ b → without_number m.0 (inbox topology before s) ≡ (if b then inbox topology before s else drop 1 (inbox topology before s))
    either true e =
        let own : in_slot before s slot ≡ Some m.0 = number_is (in_slot before s slot) m.0 (facts.again e) in
        let ran : place topology before m.0 ≡ Some (Running s) = runs_here s (place topology before m.0) (ap (runs_number topology before s) (sym own) ∙ e) in
        filter_all (λ d. not (m.0 == d.1)) (inbox topology before s)
        (each_weaker (λ d. place topology before d.1 ≡ Some (Inbox d.0)) (λ d. not (m.0 == d.1) ≡ true) (stands ran) (inbox topology before s) (inbox_places topology before s facts.role))
    either false e =
        without_head m.0 (inbox topology before s)
        (apart_kept unit_of (in_inbox topology before) (sent_to topology before s) ((distinct topology before fit.ascend (legal_before topology before (Child s m slot) h)).sent s))
        (λ d ys is. (facts.new e).1 ∙ ap first_unit is)

split_step : (topology : Topology) (before : History) (step : Step) (s : StageNo) → Fits topology → has_role topology s is_supervisor_role ≡ true → is_legal topology (step ∷ before) ≡ true → Split topology before s → Split topology (step ∷ before) s
split_step topology before (Dispatch t) s fit role h old =
    record {
      gone = old.gone;
      is =
          ap (λ xs. xs ++ delivered_to (deliveries topology before t) s) old.is
          ∙ (append_assoc old.gone (inbox topology before s) (delivered_to (deliveries topology before t) s)
          ∙ ap (λ xs. old.gone ++ xs) (sym (inbox_step topology before (Dispatch t) s fit h)));
    }
split_step topology before (Take t u k) s fit role h old =
    either (same_stage s t) refl (inbox_step topology before (Take t u k) s fit h)
  where
    either : (b : Bool) → same_stage s t ≡ b → inbox topology (Take t u k ∷ before) s ≡ inbox_after topology before (Take t u k) s (inbox topology before s) → Split topology (Take t u k ∷ before) s
    either true e is =
        absurd (two_roles topology s is_supervisor_role takes_role supervisor_takes role
        (subst (λ x. has_role topology x takes_role ≡ true) (sym (same_stage-true s t e)) (take_facts topology before t u k (legal_step topology before (Take t u k) h)).role))
    either false e is =
        let same : inbox topology (Take t u k ∷ before) s ≡ inbox topology before s = rw e at is in
        record { gone = old.gone; is = old.is ∙ ap (λ xs. old.gone ++ xs) (sym same) }
split_step topology before (Gather t m) s fit role h old =
    either (same_stage s t) refl (inbox_step topology before (Gather t m) s fit h)
  where
    either : (b : Bool) → same_stage s t ≡ b → inbox topology (Gather t m ∷ before) s ≡ inbox_after topology before (Gather t m) s (inbox topology before s) → Split topology (Gather t m ∷ before) s
    either true e is =
        absurd (two_roles topology s is_supervisor_role is_batcher_role supervisor_gathers role
        (subst (λ x. has_role topology x is_batcher_role ≡ true) (sym (same_stage-true s t e)) (gather_facts topology before t m (legal_step topology before (Gather t m) h)).role))
    either false e is =
        let same : inbox topology (Gather t m ∷ before) s ≡ inbox topology before s = rw e at is in
        record { gone = old.gone; is = old.is ∙ ap (λ xs. old.gone ++ xs) (sym same) }
split_step topology before (Child t m slot) s fit role h old =
    either (same_stage s t) refl (inbox_step topology before (Child t m slot) s fit h)
  where
    without_first_of : (gone units rest : List (SubNo × ℕ)) → rest ≡ drop 1 units → (more : List (SubNo × ℕ)) × (gone ++ units ≡ more ++ rest)
    without_first_of gone [] rest e = (gone, ap (λ xs. gone ++ xs) (sym e))
    without_first_of gone (d ∷ units) rest e = (gone ++ d ∷ [], sym (append_assoc gone (d ∷ []) units) ∙ ap (λ xs. (gone ++ d ∷ []) ++ xs) (sym e))

    own : (b : Bool) → inbox topology (Child t m slot ∷ before) s ≡ (if b then inbox topology before s else drop 1 (inbox topology before s)) → Split topology (Child t m slot ∷ before) s
    own true is = record { gone = old.gone; is = old.is ∙ ap (λ xs. old.gone ++ xs) (sym is) }
    own false is =
        let more = without_first_of old.gone (inbox topology before s) (inbox topology (Child t m slot ∷ before) s) is in
        record { gone = more.0; is = old.is ∙ more.1 }

    either : (b : Bool) → same_stage s t ≡ b → inbox topology (Child t m slot ∷ before) s ≡ (if b then without_number m.0 (inbox topology before s) else inbox topology before s) → Split topology (Child t m slot ∷ before) s
    either true e is =
        own (runs_number topology before t (in_slot before t slot))
        (is ∙ subst (λ x. without_number m.0 (inbox topology before x) ≡ (if runs_number topology before t (in_slot before t slot) then inbox topology before x else drop 1 (inbox topology before x))) (sym (same_stage-true s t e)) (child_takes topology before t m slot fit h))
    either false e is = record { gone = old.gone; is = old.is ∙ ap (λ xs. old.gone ++ xs) (sym is) }
split_step topology before (Kill t why) s fit role h old =
    either (is_some (reason_in (kill_set topology before (Kill t why)) s)) (inbox_step topology before (Kill t why) s fit h)
  where
    either : (b : Bool) → inbox topology (Kill t why ∷ before) s ≡ (if b then [] else inbox topology before s) → Split topology (Kill t why ∷ before) s
    either true is = record { gone = sent_to topology before s; is = sym (append-nil (sent_to topology before s)) ∙ ap (λ xs. sent_to topology before s ++ xs) (sym is) }
    either false is = record { gone = old.gone; is = old.is ∙ ap (λ xs. old.gone ++ xs) (sym is) }
split_step topology before Halt s fit role h old =
    either (is_some (reason_in (kill_set topology before Halt) s)) (inbox_step topology before Halt s fit h)
  where
    either : (b : Bool) → inbox topology (Halt ∷ before) s ≡ (if b then [] else inbox topology before s) → Split topology (Halt ∷ before) s
    either true is = record { gone = sent_to topology before s; is = sym (append-nil (sent_to topology before s)) ∙ ap (λ xs. sent_to topology before s ++ xs) (sym is) }
    either false is = record { gone = old.gone; is = old.is ∙ ap (λ xs. old.gone ++ xs) (sym is) }
split_step topology before step s fit role h old = record { gone = old.gone; is = old.is ∙ ap (λ xs. old.gone ++ xs) (sym (inbox_step topology before step s fit h)) }

pub split : (topology : Topology) (before : History) (s : StageNo) → Fits topology → has_role topology s is_supervisor_role ≡ true → is_legal topology before ≡ true → Split topology before s
split topology [] s fit role h = record { gone = []; is = refl }
split topology (step ∷ before) s fit role h = split_step topology before step s fit role h (split topology before s fit role (legal_before topology before step h))

-- ---- a child starts

-- one more of a list passes, and nothing behind it does
joins_last : (old new : ℕ → Bool) (xs : List ℕ) (m : ℕ) (ys : List ℕ) → Each (λ n. new n ≡ old n) xs → old m ≡ false → new m ≡ true → Each (λ n. old n ≡ false) ys → Each (λ n. new n ≡ false) ys → filter new (xs ++ m ∷ ys) ≡ filter old (xs ++ m ∷ ys) ++ m ∷ []
joins_last old new [] m ys same was is olds news = (λ i. cond (is i) (m ∷ none new ys news i) (none new ys news i)) ∙ sym (λ i. cond (was i) (m ∷ none old ys olds i) (none old ys olds i) ++ m ∷ [])
  where
    none : (test : ℕ → Bool) (ys : List ℕ) → Each (λ n. test n ≡ false) ys → filter test ys ≡ []
    none test [] h = refl
    none test (y ∷ ys) h = λ i. cond (h.0 i) (y ∷ none test ys h.1 i) (none test ys h.1 i)
joins_last old new (x ∷ xs) m ys same was is olds news = either (old x) same.0 (joins_last old new xs m ys same.1 was is olds news)
  where
    either : (b : Bool) → new x ≡ b → filter new (xs ++ m ∷ ys) ≡ filter old (xs ++ m ∷ ys) ++ m ∷ [] → cond (new x) (x ∷ filter new (xs ++ m ∷ ys)) (filter new (xs ++ m ∷ ys)) ≡ cond b (x ∷ filter old (xs ++ m ∷ ys)) (filter old (xs ++ m ∷ ys)) ++ m ∷ []
    either true e rest = λ i. cond (e i) (x ∷ rest i) (rest i)
    either false e rest = λ i. cond (e i) (x ∷ rest i) (rest i)

-- in a list without repetitions the others have other numbers
apart_around : (xs : List (SubNo × ℕ)) (d : SubNo × ℕ) (ys : List (SubNo × ℕ)) → Apart unit_of (xs ++ d ∷ ys) → Each (λ x. (x.1 == d.1) ≡ false) xs × Each (λ y. (d.1 == y.1) ≡ false) ys
apart_around [] d ys a = (tt, a.0)
apart_around (x ∷ xs) d ys a = ((behind xs a.0, (apart_around xs d ys a.1).0), (apart_around xs d ys a.1).1)
  where
    behind : (zs : List (SubNo × ℕ)) → Each (λ y. (x.1 == y.1) ≡ false) (zs ++ d ∷ ys) → (x.1 == d.1) ≡ false
    behind [] e = e.0
    behind (z ∷ zs) e = behind zs e.1

pub among_fails : (test : ℕ → Bool) (xs : List ℕ) (m : ℕ) → test m ≡ false → among (filter test xs) m ≡ false
among_fails test [] m e = refl
among_fails test (x ∷ xs) m e = either (test x) refl (among_fails test xs m e)
  where
    either : (b : Bool) → test x ≡ b → among (filter test xs) m ≡ false → among (cond b (x ∷ filter test xs) (filter test xs)) m ≡ false
    either true is rest = by_number (x == m) refl
      where
        by_number : (c : Bool) → (x == m) ≡ c → (c || among (filter test xs) m) ≡ false
        by_number true same = clash (test m) (ap test (sym (eqb-true x m same)) ∙ is) e
        by_number false other = rest
    either false is rest = rest

flipped : (a b : ℕ) → (a == b) ≡ false → (b == a) ≡ false
flipped a b e = false_from_ne_true (b == a) (λ g. clash (a == b) (eq-eqb a b (sym (eqb-true b a g))) e)

-- another message stays where it is
pub child_elsewhere : (topology : Topology) (before : History) (s : StageNo) (m : MsgNo) (slot n : ℕ) → (m.0 == n) ≡ false → place topology (Child s m slot ∷ before) n ≡ place topology before n
child_elsewhere topology before s m slot n other = by_place (place topology before n)
  where
    stays : (a b : Bool) (u : SubNo) → b ≡ false → Some (if a && (b || false) then Running s else Inbox u) ≡ Some (Inbox u)
    stays true true u e = cc
    stays true false u e = refl
    stays false b u e = refl

    by_place : (p : Option Place) → option_map (taken (m.0 ∷ []) s n) p ≡ p
    by_place (Some (Inbox u)) = stays (same_stage s u.consumer) (m.0 == n) u other
    by_place _ = refl

-- and that of the child runs
pub child_runs : (topology : Topology) (before : History) (s : StageNo) (m : MsgNo) (slot : ℕ) → is_legal topology (Child s m slot ∷ before) ≡ true → place topology (Child s m slot ∷ before) m.0 ≡ Some (Running s)
child_runs topology before s m slot h = either (runs_number topology before s (in_slot before s slot)) refl
  where
    facts : ChildFacts topology before s m.0 slot
    facts = child_facts topology before s m slot (legal_step topology before (Child s m slot) h)

    either : (b : Bool) → runs_number topology before s (in_slot before s slot) ≡ b → place topology (Child s m slot ∷ before) m.0 ≡ Some (Running s)
    either true e =
        let own : in_slot before s slot ≡ Some m.0 = number_is (in_slot before s slot) m.0 (facts.again e) in
        ap (option_map (taken (m.0 ∷ []) s m.0)) (runs_here s (place topology before m.0) (ap (runs_number topology before s) (sym own) ∙ e))
    either false e =
        let fresh = facts.new e in
        let stood = first_stands topology before s is_supervisor_role m.0 supervisor_writes facts.role fresh.0 fresh.1 in
        let here : same_stage s stood.0.consumer ≡ true = ap (same_stage s) stood.1 ∙ same_stage-self s in
        ap (option_map (taken (m.0 ∷ []) s m.0)) stood.2 ∙ (λ i. Some (if here i && (eq-eqb m.0 m.0 refl i || false) then Running s else Inbox stood.0))

pub runs_started : (topology : Topology) (before : History) (s : StageNo) (m : MsgNo) (slot : ℕ) → Fits topology → is_legal topology (Child s m slot ∷ before) ≡ true
    → running topology (Child s m slot ∷ before) s ≡ (if not (among (running topology before s) m.0) then running topology before s ++ m.0 ∷ [] else running topology before s)
runs_started topology before s m slot fit h = either (runs_number topology before s (in_slot before s slot)) refl
  where
    facts : ChildFacts topology before s m.0 slot
    facts = child_facts topology before s m slot (legal_step topology before (Child s m slot) h)

    legal : is_legal topology before ≡ true
    legal = legal_before topology before (Child s m slot) h

    runs_then : ℕ → Bool
    runs_then n = runs_in s (place topology before n)

    runs_now : ℕ → Bool
    runs_now n = runs_in s (place topology (Child s m slot ∷ before) n)

    again : place topology before m.0 ≡ Some (Running s) → (n : ℕ) → runs_now n ≡ runs_then n
    again ran n = by_number (m.0 == n) refl
      where
        by_number : (b : Bool) → (m.0 == n) ≡ b → runs_in s (place topology (Child s m slot ∷ before) n) ≡ runs_in s (place topology before n)
        by_number true e =
            let here : place topology before n ≡ Some (Running s) = ap (place topology before) (sym (eqb-true m.0 n e)) ∙ ran in
            ap (λ p. runs_in s (option_map (taken (m.0 ∷ []) s n) p)) here ∙ sym (ap (runs_in s) here)
        by_number false e = ap (runs_in s) (child_elsewhere topology before s m slot n e)

    new : (gone units : List (SubNo × ℕ)) → sent_to topology before s ≡ gone ++ units → Each (λ d. place topology before d.1 ≡ Some (Inbox d.0)) units → Apart unit_of (gone ++ units) → m.0 ≡ first_unit units → 1 ≤ m.0 → place topology (Child s m slot ∷ before) m.0 ≡ Some (Running s)
        → running topology (Child s m slot ∷ before) s ≡ running topology before s ++ m.0 ∷ []
    new gone [] is stand apart first some after = absurd (let zero_is : m.0 ≡ 0 = first in omega arith)
    new gone (d ∷ units) is stand apart first some after =
        subst (λ k. filter runs_now (numbers topology before s) ≡ filter runs_then (numbers topology before s) ++ k ∷ []) (sym first)
        (subst (λ ns. filter runs_now ns ≡ filter runs_then ns ++ d.1 ∷ []) (sym listed)
        (joins_last runs_then runs_now (map (λ x. x.1) gone) d.1 (map (λ x. x.1) units) same was now olds news))
      where
        listed : numbers topology before s ≡ map (λ x. x.1) gone ++ d.1 ∷ map (λ x. x.1) units
        listed = ap (map (λ x. x.1)) is ∙ map-append (λ (x : SubNo × ℕ). x.1) gone (d ∷ units)

        around : Each (λ x. (x.1 == d.1) ≡ false) gone × Each (λ y. (d.1 == y.1) ≡ false) units
        around = apart_around gone d units apart

        other : (n : ℕ) → (d.1 == n) ≡ false → runs_now n ≡ runs_then n
        other n e = ap (runs_in s) (child_elsewhere topology before s m slot n (ap (λ k. k == n) first ∙ e))

        same : Each (λ n. runs_now n ≡ runs_then n) (map (λ x. x.1) gone)
        same = each_map (λ n. runs_now n ≡ runs_then n) (λ (x : SubNo × ℕ). x.1) gone (each_weaker (λ x. (x.1 == d.1) ≡ false) (λ x. runs_now x.1 ≡ runs_then x.1) (λ x e. other x.1 (flipped x.1 d.1 e)) gone around.0)

        was : runs_then d.1 ≡ false
        was = ap (runs_in s) stand.0

        now : runs_now d.1 ≡ true
        now = ap (λ k. runs_in s (place topology (Child s m slot ∷ before) k)) (sym first) ∙ (ap (runs_in s) after ∙ same_stage-self s)

        olds : Each (λ n. runs_then n ≡ false) (map (λ x. x.1) units)
        olds = each_map (λ n. runs_then n ≡ false) (λ (x : SubNo × ℕ). x.1) units (each_weaker (λ x. place topology before x.1 ≡ Some (Inbox x.0)) (λ x. runs_then x.1 ≡ false) (λ x e. ap (runs_in s) e) units stand.1)

        news : Each (λ n. runs_now n ≡ false) (map (λ x. x.1) units)
        news =
            each_map (λ n. runs_now n ≡ false) (λ (x : SubNo × ℕ). x.1) units
            (each_weaker (λ x. (place topology before x.1 ≡ Some (Inbox x.0)) × ((d.1 == x.1) ≡ false)) (λ x. runs_now x.1 ≡ false) (λ x p. other x.1 p.1 ∙ ap (runs_in s) p.0) units (paired units stand.1 around.1))
          where
            paired : (xs : List (SubNo × ℕ)) → Each (λ x. place topology before x.1 ≡ Some (Inbox x.0)) xs → Each (λ x. (d.1 == x.1) ≡ false) xs → Each (λ x. (place topology before x.1 ≡ Some (Inbox x.0)) × ((d.1 == x.1) ≡ false)) xs
            paired [] a b = tt
            paired (x ∷ xs) a b = ((a.0, b.0), paired xs a.1 b.1)

    either : (b : Bool) → runs_number topology before s (in_slot before s slot) ≡ b → running topology (Child s m slot ∷ before) s ≡ (if not (among (running topology before s) m.0) then running topology before s ++ m.0 ∷ [] else running topology before s)
    either true e =
        let own : in_slot before s slot ≡ Some m.0 = number_is (in_slot before s slot) m.0 (facts.again e) in
        let ran : place topology before m.0 ≡ Some (Running s) = runs_here s (place topology before m.0) (ap (runs_number topology before s) (sym own) ∙ e) in
        let there : among (running topology before s) m.0 ≡ true = (stands_in_queue topology before m.0 fit legal).runs s ran in
        filter_alike runs_then runs_now (again ran) (numbers topology before s)
        ∙ sym (ap (λ b. if not b then running topology before s ++ m.0 ∷ [] else running topology before s) there)
    either false e =
        let fresh = facts.new e in
        let stood = first_stands topology before s is_supervisor_role m.0 supervisor_writes facts.role fresh.0 fresh.1 in
        let parts = split topology before s fit facts.role legal in
        let none : among (running topology before s) m.0 ≡ false = among_fails runs_then (numbers topology before s) m.0 (ap (runs_in s) stood.2) in
        new parts.gone (inbox topology before s) parts.is (inbox_places topology before s facts.role)
        (subst (Apart unit_of) parts.is ((distinct topology before fit.ascend legal).sent s)) fresh.1 fresh.0
        (child_runs topology before s m slot h)
        ∙ sym (ap (λ b. if not b then running topology before s ++ m.0 ∷ [] else running topology before s) none)

pub runs_started_else : (topology : Topology) (before : History) (t s : StageNo) (m : MsgNo) (slot : ℕ) → same_stage s t ≡ false → running topology (Child t m slot ∷ before) s ≡ running topology before s
runs_started_else topology before t s m slot other =
    filter_alike (λ n. runs_in s (place topology before n)) (λ n. runs_in s (place topology (Child t m slot ∷ before) n)) (λ n. by n (place topology before n)) (numbers topology before s)
  where
    by : (n : ℕ) (p : Option Place) → runs_in s (option_map (taken (m.0 ∷ []) t n) p) ≡ runs_in s p
    by n (Some (Inbox v)) = either (same_stage t v.consumer && among (m.0 ∷ []) n)
      where
        either : (b : Bool) → runs_in s (Some (if b then Running t else Inbox v)) ≡ false
        either true = other
        either false = refl
    by n _ = refl

-- ---- a child ends

ended_runs : (topology : Topology) (before : History) (s : StageNo) (slot : ℕ) (reply : Reply) (n : ℕ) → runs_in s (place topology (ChildEnd s slot reply ∷ before) n) ≡ (runs_in s (place topology before n) && not (stops_running topology before s slot reply && is_number (in_slot before s slot) n))
ended_runs topology before s slot reply n = by_place (place topology before n)
  where
    and_none : (b : Bool) → true ≡ not (b && false)
    and_none true = refl
    and_none false = refl

    ends : (v : StageNo) (b : Bool) → same_stage s v ≡ b → (o : Option ℕ) → runs_in s (Some (if b && is_number o n then child_place (runs_again (spec_of topology s) (crashes before n)) s (incarnation before s) reply else Running v)) ≡ (b && not (not (crashed_reply reply && runs_again (spec_of topology s) (crashes_of before o)) && is_number o n))
    ends v false e o = e
    ends v true e None = e ∙ and_none (not (crashed_reply reply && runs_again (spec_of topology s) 0))
    ends v true e (Some m) = by_number (m == n) refl
      where
        crash : (b : Bool) → runs_in s (Some (if b then Running s else Lost (Killed s (incarnation before s) Crash))) ≡ not (not b && true)
        crash true = same_stage-self s
        crash false = refl

        by_reply : m ≡ n → (r : Reply) → runs_in s (Some (child_place (runs_again (spec_of topology s) (crashes before n)) s (incarnation before s) r)) ≡ not (not (crashed_reply r && runs_again (spec_of topology s) (crashes before m)) && true)
        by_reply is Crashed = crash (runs_again (spec_of topology s) (crashes before n)) ∙ ap (λ k. not (not (runs_again (spec_of topology s) (crashes before k)) && true)) (sym is)
        by_reply is _ = refl

        by_number : (c : Bool) → (m == n) ≡ c → runs_in s (Some (if c then child_place (runs_again (spec_of topology s) (crashes before n)) s (incarnation before s) reply else Running v)) ≡ not (not (crashed_reply reply && runs_again (spec_of topology s) (crashes before m)) && c)
        by_number true f = by_reply (eqb-true m n f) reply
        by_number false f = e ∙ and_none (not (crashed_reply reply && runs_again (spec_of topology s) (crashes before m)))

    by_place : (p : Option Place) → runs_in s (option_map (child_ended (runs_again (spec_of topology s) (crashes before n)) (in_slot before s slot) s (incarnation before s) reply n) p) ≡ (runs_in s p && not (stops_running topology before s slot reply && is_number (in_slot before s slot) n))
    by_place (Some (Running v)) = ends v (same_stage s v) refl (in_slot before s slot)
    by_place _ = refl

pub runs_ended : (topology : Topology) (before : History) (s : StageNo) (slot : ℕ) (reply : Reply) → running topology (ChildEnd s slot reply ∷ before) s ≡ (if stops_running topology before s slot reply then without_slot (in_slot before s slot) (running topology before s) else running topology before s)
runs_ended topology before s slot reply =
    filter_both (λ n. runs_in s (place topology before n)) (λ n. runs_in s (place topology (ChildEnd s slot reply ∷ before) n)) (λ n. not (stops_running topology before s slot reply && is_number (in_slot before s slot) n)) (numbers topology before s)
    (each_always (λ n. runs_in s (place topology (ChildEnd s slot reply ∷ before) n) ≡ (runs_in s (place topology before n) && not (stops_running topology before s slot reply && is_number (in_slot before s slot) n))) (ended_runs topology before s slot reply) (numbers topology before s))
    ∙ either (stops_running topology before s slot reply)
  where
    either : (b : Bool) → filter (λ n. not (b && is_number (in_slot before s slot) n)) (running topology before s) ≡ (if b then without_slot (in_slot before s slot) (running topology before s) else running topology before s)
    either true = refl
    either false = filter_all (λ n. true) (running topology before s) (each_always (λ n. true ≡ true) (λ n. refl) (running topology before s))

pub runs_ended_else : (topology : Topology) (before : History) (t s : StageNo) (slot : ℕ) (reply : Reply) → same_stage s t ≡ false → running topology (ChildEnd t slot reply ∷ before) s ≡ running topology before s
runs_ended_else topology before t s slot reply other =
    filter_alike (λ n. runs_in s (place topology before n)) (λ n. runs_in s (place topology (ChildEnd t slot reply ∷ before) n)) (λ n. by n (place topology before n)) (numbers topology before s)
  where
    answer : (again : Bool) (r : Reply) → runs_in s (Some (child_place again t (incarnation before t) r)) ≡ false
    answer again (Pass x) = refl
    answer again (FailedReply why) = refl
    answer again (Raised why) = refl
    answer true Crashed = other
    answer false Crashed = refl

    by : (n : ℕ) (p : Option Place) → runs_in s (option_map (child_ended (runs_again (spec_of topology t) (crashes before n)) (in_slot before t slot) t (incarnation before t) reply n) p) ≡ runs_in s p
    by n (Some (Running v)) = either (same_stage t v) refl (is_number (in_slot before t slot) n)
      where
        either : (b : Bool) → same_stage t v ≡ b → (c : Bool) → runs_in s (Some (if b && c then child_place (runs_again (spec_of topology t) (crashes before n)) t (incarnation before t) reply else Running v)) ≡ runs_in s (Some (Running v))
        either true e true = answer (runs_again (spec_of topology t) (crashes before n)) reply ∙ sym (ap (same_stage s) (sym (same_stage-true t v e)) ∙ other)
        either true e false = refl
        either false e c = refl
    by n _ = refl
