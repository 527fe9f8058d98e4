-- A stage at work on a take works on at least as many units of the subscription as it took.
use Rattle.std.proofs.Common.{◌≡◌, ℕ, ◌+◌, ◌≤◌, List, [], ◌∷◌, map, length, Bool, true, false, refl, ap, sym, ◌∙◌, subst, Some, None, Option, arith}
use Rattle.std.specs.Prelude.{if◌then◌else◌, not, ◌==◌, ◌&&◌, ◌||◌, option_map, is_some, is_none, filter, cond}
use Rattle.std.proofs.lemmas.Bool.{eqb-true}
use Rattle.pipe_types.specs.declared.numbers.SubNo.{SubNo}
use Rattle.pipe_types.specs.declared.numbers.StageNo.{StageNo}
use Rattle.pipe_types.specs.declared.topology.Topology.{Topology}
use Rattle.pipe_types.specs.declared.topology.StageSpec.{StageSpec}
use Rattle.pipe_types.specs.declared.topology.Role.{Role}
use Rattle.pipe_types.specs.declared.topology.Role.TheVariants.{Batcher}
use Rattle.pipe_types.specs.declared.message.Place.{Place}
use Rattle.pipe_types.specs.declared.message.Place.TheVariants.{Inbox}
use Rattle.pipe_types.specs.declared.message.Why.{Why}
use Rattle.pipe_types.specs.declared.step.Step.{Step}
use Rattle.pipe_types.specs.declared.step.Step.TheVariants.{Fetch, Dispatch, Take, Done, Wrote, Child, ChildEnd, Restart}
use Rattle.pipe_types.specs.Numbers.{same_stage, same_sub, post}
use Rattle.pipe_types.specs.Stages.{spec_of}
use Rattle.pipe_model.specs.History.{History, incarnation, incarnation_after}
use Rattle.pipe_model.specs.Posts.{puts_out, answers, is_out, out_from, last_take}
use Rattle.pipe_model.specs.Lives.{is_live, is_alive, death, death_after, restarts, reason_in, killed_by, generation}
use Rattle.pipe_model.specs.Flow.{place, batch, view_of, among, is_batcher, in_inbox_by, leg_waits_in, runs_in, sent_to, inbox, units_on, next_units, change_place, delivered_to, sends_by}
use Rattle.pipe_model.specs.Batches.{Batch, BatchPlace, AtBatcher, Sent, Dropped, Leg, on_legs, leg_taken, batch_on_legs}
use Rattle.pipe_model.specs.Flow.{leg_waits}
use Rattle.pipe_model.specs.Legal.{is_legal, allows, is_current, has_role, takes_role, is_producer_role, is_supervisor_role, first_sub, chunk_size}
use Rattle.pipe_laws.proofs.Tests.{clash, and_left, and_right, same_stage-true, same_stage-self, same_stage-flip, same_sub-true}
use Rattle.pipe_laws.proofs.Lists.{each_always, weigh, weigh_le, weigh-append, weigh_taken, all_among, first_kept}
use Rattle.pipe_laws.proofs.Entries.{EntryFits, entries_fit}
use Rattle.pipe_laws.proofs.Weights.{stands, taken_legs}
use Rattle.pipe_laws.proofs.Allowed.{TakeFacts, legal_before, legal_step, take_facts, fetch_role, child_facts, child_end_facts}
use Rattle.pipe_laws.proofs.Kept.{ends_work, works_kept}
use Rattle.pipe_model.specs.Standing.{in_inbox, works, works_at, leg_works, leg_works_in}
use Rattle.pipe_model.specs.Counting.{as_number}
pub use Rattle.pipe_laws.proofs.Roles.{takes_producer, takes_supervisor, producer_takes, producer_supervises}

-- Posts

pub out_from_within : (before : History) (s : StageNo) (slot : ℕ) → out_from before (post s slot) ≤ incarnation before s
out_from_within [] s slot = omega arith
out_from_within (step ∷ before) s slot = either (puts_out step (post s slot)) (out_from_within before s slot) (grows step (incarnation before s))
  where
    grows : (step : Step) (n : ℕ) → n ≤ incarnation_after step s n
    grows (Restart t) n = by_stage (same_stage s t)
      where
        by_stage : (b : Bool) → n ≤ (if b then n + 1 else n)
        by_stage true = omega arith
        by_stage false = omega arith
    grows _ n = omega arith

    either : (b : Bool) → out_from before (post s slot) ≤ incarnation before s → incarnation before s ≤ incarnation_after step s (incarnation before s) → (if b then incarnation before s else out_from before (post s slot)) ≤ incarnation_after step s (incarnation before s)
    either true h g = g
    either false h g = omega arith

pub same_incarnation : (step : Step) (s : StageNo) (n : ℕ) → restarts step s ≡ false → incarnation_after step s n ≡ n
same_incarnation (Restart t) s n h = rw h refl
same_incarnation _ s n h = refl

more_incarnation : (step : Step) (s : StageNo) (n : ℕ) → restarts step s ≡ true → incarnation_after step s n ≡ n + 1
more_incarnation (Restart t) s n h = rw h refl
more_incarnation _ s n h = cc

-- a post that is out from the present incarnation was so before a step that does not put it out, and the step neither
-- answers it nor restarts the stage
pub record WasCurrent (before : History) (step : Step) (s : StageNo) (slot : ℕ) : Type 0 where
  pub current : is_current before s slot ≡ true
  pub unanswered : answers step (post s slot) ≡ false
  pub unrestarted : restarts step s ≡ false

pub was_current : (before : History) (step : Step) (s : StageNo) (slot : ℕ) → puts_out step (post s slot) ≡ false → is_current (step ∷ before) s slot ≡ true → WasCurrent before step s slot
was_current before step s slot quiet now =
    either (puts_out step (post s slot)) (answers step (post s slot)) (restarts step s) quiet refl refl now
  where
    either : (p a r : Bool) → p ≡ false → answers step (post s slot) ≡ a → restarts step s ≡ r → ((p || (not a && is_out before (post s slot))) && ((if p then incarnation before s else out_from before (post s slot)) == incarnation_after step s (incarnation before s))) ≡ true → WasCurrent before step s slot
    either true a r q ea er now = cc
    either false true r q ea er now = cc
    either false false true q ea er now =
        absurd
        (let same : out_from before (post s slot) ≡ incarnation_after step s (incarnation before s) = eqb-true _ _ (and_right (is_out before (post s slot)) _ now) in
        let more : incarnation_after step s (incarnation before s) ≡ incarnation before s + 1 = more_incarnation step s (incarnation before s) er in
        let within : out_from before (post s slot) ≤ incarnation before s = out_from_within before s slot in
        omega arith)
    either false false false q ea er now =
        record {
          current = subst (λ n. (is_out before (post s slot) && (out_from before (post s slot) == n)) ≡ true) (same_incarnation step s (incarnation before s) er) now;
          unanswered = ea;
          unrestarted = er;
        }

-- a stage that lives after a step that does not restart it lived before
pub was_live : (topology : Topology) (before : History) (step : Step) (s : StageNo) → restarts step s ≡ false → is_live topology (step ∷ before) s ≡ true → is_live topology before s ≡ true
was_live topology before step s quiet live =
    either (reason_in (killed_by topology (λ t. is_alive topology (death topology before t) t) (λ c p. generation topology before c p) step) s) (restarts step s) quiet live
  where
    either : (why : Option Why) (r : Bool) → r ≡ false → is_alive topology (death_after why r (death topology before s)) s ≡ true → is_alive topology (death topology before s) s ≡ true
    either None false e h = h
    either None true e h = cc
    either (Some why) r e h = let x : (is_none (Some why)) ≡ true = and_right (is_some (spec_of topology s)) _ h in cc

-- Roles

-- a stage has one role
pub two_roles : (topology : Topology) (s : StageNo) (one other : Role → Bool) → ((role : Role) → one role ≡ true → other role ≡ true → ⊥) → has_role topology s one ≡ true → has_role topology s other ≡ true → ⊥
two_roles topology s one other apart h k = by_spec (spec_of topology s) refl
  where
    by_spec : (o : Option StageSpec) → spec_of topology s ≡ o → ⊥
    by_spec None e = let x : has_role topology s one ≡ false = rw e refl in clash (has_role topology s one) h x
    by_spec (Some spec) e =
        let x : has_role topology s one ≡ one spec.role = rw e refl in
        let y : has_role topology s other ≡ other spec.role = rw e refl in
        apart spec.role (sym x ∙ h) (sym y ∙ k)

-- a stage that took takes
pub take_role : (topology : Topology) (before : History) (s : StageNo) (u : SubNo) (k : ℕ) → is_legal topology before ≡ true → last_take before s ≡ Some (u, k) → has_role topology s takes_role ≡ true
take_role topology [] s u k h e = cc
take_role topology (Take t v j ∷ before) s u k h e =
    either (same_stage s t) refl e (take_role topology before s u k (legal_before topology before (Take t v j) h))
  where
    either : (b : Bool) → same_stage s t ≡ b → (if b then Some (v, j) else last_take before s) ≡ Some (u, k) → (last_take before s ≡ Some (u, k) → has_role topology s takes_role ≡ true) → has_role topology s takes_role ≡ true
    either true same e rest = subst (λ x. has_role topology x takes_role ≡ true) (sym (same_stage-true s t same)) (take_facts topology before t v j (legal_step topology before (Take t v j) h)).role
    either false other e rest = rest e
take_role topology (step ∷ before) s u k h e = take_role topology before s u k (legal_before topology before step h) e

-- The work of a take

-- what an entry counts of the consumer's work on the subscription
abbrev pub work_weight : Topology → History → SubNo → SubNo × ℕ → ℕ
work_weight topology before u d = if same_sub d.0 u then as_number (works topology before u d.1) else 0

-- the stage works on as much of the subscription as it took
pub record Busy (topology : Topology) (before : History) (s : StageNo) (u : SubNo) (k : ℕ) : Type 0 where
  pub there : u.consumer ≡ s
  pub enough : k ≤ weigh (work_weight topology before u) (sent_to topology before s)

as_number_le : (a b : Bool) → (a ≡ true → b ≡ true) → as_number a ≤ as_number b
as_number_le true b f = let e : as_number b ≡ 1 = ap as_number (f refl) in omega arith
as_number_le false b f = omega arith

no_end : (topology : Topology) (before : History) (step : Step) (s : StageNo) → allows topology before step ≡ true → has_role topology s takes_role ≡ true → answers step (post s 0) ≡ false → ends_work step s ≡ false
no_end topology before (Done t r) s h role quiet = flipped (same_stage t s) (same_stage s t) (same_stage-flip t s) quiet
  where
    flipped : (a b : Bool) → (a ≡ true → b ≡ true) → (b && true) ≡ false → a ≡ false
    flipped true true f q = q
    flipped true false f q = clash false (f refl) refl
    flipped false b f q = refl
no_end topology before (Wrote t b e) s h role quiet = flipped (same_stage t s) (same_stage s t) (same_stage-flip t s) quiet
  where
    flipped : (a b : Bool) → (a ≡ true → b ≡ true) → (b && true) ≡ false → a ≡ false
    flipped true true f q = q
    flipped true false f q = clash false (f refl) refl
    flipped false b f q = refl
no_end topology before (ChildEnd t slot r) s h role quiet = either (same_stage t s) refl
  where
    either : (a : Bool) → same_stage t s ≡ a → a ≡ false
    either false e = refl
    either true e =
        absurd (two_roles topology s takes_role is_supervisor_role takes_supervisor role
        (subst (λ x. has_role topology x is_supervisor_role ≡ true) (same_stage-true t s e) (child_end_facts topology before t slot r h).role))
no_end topology before _ s h role quiet = refl

sent_more : (topology : Topology) (before : History) (step : Step) (s : StageNo) (f : SubNo × ℕ → ℕ) → weigh f (sent_to topology before s) ≤ weigh f (sent_to topology (step ∷ before) s)
sent_more topology before (Dispatch t) s f = omega (arith, weigh-append f (sent_to topology before s) (delivered_to (sends_by topology before (view_of topology before) t) s))
sent_more topology before _ s f = omega arith

busy_step : (topology : Topology) (before : History) (step : Step) (s : StageNo) (u : SubNo) (k : ℕ) → allows topology before step ≡ true → has_role topology s takes_role ≡ true → is_live topology (step ∷ before) s ≡ true → WasCurrent before step s 0 → Busy topology before s u k → Busy topology (step ∷ before) s u k
busy_step topology before step s u k h role live was busy =
    record {
      there = busy.there;
      enough = omega (arith, busy.enough, weigh_le (work_weight topology before u) (work_weight topology (step ∷ before) u) (sent_to topology before s) (each_always _ kept _), sent_more topology before step s (work_weight topology (step ∷ before) u));
    }
  where
    none : ends_work step u.consumer ≡ false
    none = ap (ends_work step) busy.there ∙ no_end topology before step s h role was.unanswered

    lives : is_live topology (step ∷ before) u.consumer ≡ true
    lives = ap (is_live topology (step ∷ before)) busy.there ∙ live

    kept : (d : SubNo × ℕ) → work_weight topology before u d ≤ work_weight topology (step ∷ before) u d
    kept d = either (same_sub d.0 u)
      where
        either : (b : Bool) → (if b then as_number (works topology before u d.1) else 0) ≤ (if b then as_number (works topology (step ∷ before) u d.1) else 0)
        either true = as_number_le (works topology before u d.1) (works topology (step ∷ before) u d.1) (works_kept topology before step u d.1 none lives)
        either false = omega arith

-- Takes

pub inbox_here : (u : SubNo) (p : Option Place) → in_inbox_by u p ≡ true → p ≡ Some (Inbox u)
inbox_here u (Some (Inbox v)) h = ap (λ x. Some (Inbox x)) (sym (same_sub-true u v h))
inbox_here u _ h = cc

-- a unit of the take stood in the inbox, and is at work afterwards
take_works : (topology : Topology) (before : History) (s : StageNo) (u : SubNo) (k n : ℕ) → u.consumer ≡ s → among (next_units topology (view_of topology before) s u k) n ≡ true → stands topology before u n ≡ true → works topology (Take s u k ∷ before) u n ≡ true
take_works topology before s u k n there chosen standing = either (is_batcher (spec_of topology u.producer)) standing
  where
    here : same_stage s u.consumer ≡ true
    here = ap (λ x. same_stage x u.consumer) (sym there) ∙ same_stage-self u.consumer

    legs_work : (legs : List Leg) → leg_waits u legs ≡ true → leg_works u (on_legs (leg_taken s) legs) ≡ true
    legs_work legs h = (taken_legs s u legs here).1 ∙ or_right (leg_works u legs) (leg_waits u legs) h
      where
        or_right : (a b : Bool) → b ≡ true → (a || b) ≡ true
        or_right true b e = refl
        or_right false b e = e

    by_place : (p : BatchPlace) → leg_waits_in u (Some (record { numbers = []; place = p })) ≡ true → works_at u (batch_on_legs (leg_taken s) p) ≡ true
    by_place (Sent legs) h = legs_work legs h
    by_place (AtBatcher t) h = cc
    by_place (Dropped l) h = cc

    by_batch_place : (o : Option Batch) → leg_waits_in u o ≡ true → leg_works_in u (option_map (λ x. change_place x (batch_on_legs (leg_taken s) x.place)) o) ≡ true
    by_batch_place None h = cc
    by_batch_place (Some x) h = by_place x.place h

    either : (b : Bool) → (if b then leg_waits_in u (batch topology before n) else in_inbox_by u (place topology before n)) ≡ true → (if b then leg_works_in u (batch topology (Take s u k ∷ before) n) else runs_in u.consumer (place topology (Take s u k ∷ before) n)) ≡ true
    either true h = rw chosen (by_batch_place (batch topology before n) h)
    either false h =
        rw (inbox_here u (place topology before n) h, here, chosen) (ap (same_stage u.consumer) (sym there) ∙ same_stage-self u.consumer)

-- the weight of what two filters keep
filtered_weight : (test on : SubNo × ℕ → Bool) (g : ℕ → Bool) (xs : List (SubNo × ℕ)) → weigh (λ n. as_number (g n)) (map (λ d. d.1) (filter on (filter test xs))) ≡ weigh (λ d. as_number (on d && (test d && g d.1))) xs
filtered_weight test on g [] = refl
filtered_weight test on g (x ∷ xs) = either (test x) (on x) refl (filtered_weight test on g xs)
  where
    either : (t o : Bool) → on x ≡ o → weigh (λ n. as_number (g n)) (map (λ d. d.1) (filter on (filter test xs))) ≡ weigh (λ d. as_number (on d && (test d && g d.1))) xs → weigh (λ n. as_number (g n)) (map (λ d. d.1) (filter on (cond t (x ∷ filter test xs) (filter test xs)))) ≡ as_number (o && (t && g x.1)) + weigh (λ d. as_number (on d && (test d && g d.1))) xs
    either true true e rest = rw e (ap (λ w. as_number (g x.1) + w) rest)
    either true false e rest = rw e (omega (arith, rest))
    either false true e rest = omega (arith, rest)
    either false false e rest = omega (arith, rest)

pub chunk_within : (spec : Option StageSpec) (n : ℕ) → chunk_size spec n ≤ n
chunk_within None n = omega arith
chunk_within (Some spec) n = omega arith

-- the subscription of a take is one of the stage
pub take_there : (topology : Topology) (before : History) (s : StageNo) (u : SubNo) → first_sub (inbox topology before s) u ≡ true → u.consumer ≡ s
take_there topology before s u h = by_inbox (inbox topology before s) refl h
  where
    by_inbox : (units : List (SubNo × ℕ)) → inbox topology before s ≡ units → first_sub units u ≡ true → u.consumer ≡ s
    by_inbox [] e h = cc
    by_inbox (d ∷ units) e h =
        let fits : EntryFits topology before s d = (first_kept (EntryFits topology before s) (in_inbox topology before) (λ x. 0) (sent_to topology before s) d units (entries_fit topology before s) e).1 in
        ap (λ x. x.consumer) (sym (same_sub-true d.0 u h)) ∙ fits.consumer

take_busy : (topology : Topology) (before : History) (s : StageNo) (u : SubNo) (k : ℕ) → allows topology before (Take s u k) ≡ true → Busy topology (Take s u k ∷ before) s u k
take_busy topology before s u k h =
    record {
      there = take_there topology before s u facts.first;
      enough =
          let size : k ≤ length (units_on u (inbox topology before s)) = omega (arith, facts.size, chunk_within (spec_of topology s) (length (units_on u (inbox topology before s)))) in
          let many : k ≤ weigh (λ n. as_number (among chunk n)) (units_on u (inbox topology before s)) = weigh_taken chunk (units_on u (inbox topology before s)) k size (all_among chunk) in
          let same : weigh (λ n. as_number (among chunk n)) (units_on u (inbox topology before s)) ≡ weigh (λ d. as_number (same_sub d.0 u && (in_inbox topology before d && among chunk d.1))) (sent_to topology before s) =
          filtered_weight (in_inbox topology before) (λ d. same_sub d.0 u) (among chunk) (sent_to topology before s) in
          omega (arith, weigh_le (λ d. as_number (same_sub d.0 u && (in_inbox topology before d && among chunk d.1))) (work_weight topology (Take s u k ∷ before) u) (sent_to topology before s) (each_always _ each _));
    }
  where
    facts : TakeFacts topology before s u k
    facts = take_facts topology before s u k h

    chunk : List ℕ
    chunk = next_units topology (view_of topology before) s u k

    each : (d : SubNo × ℕ) → as_number (same_sub d.0 u && (in_inbox topology before d && among (next_units topology (view_of topology before) s u k) d.1)) ≤ work_weight topology (Take s u k ∷ before) u d
    each d = either (same_sub d.0 u) refl
      where
        either : (b : Bool) → same_sub d.0 u ≡ b → as_number (b && (in_inbox topology before d && among (next_units topology (view_of topology before) s u k) d.1)) ≤ (if b then as_number (works topology (Take s u k ∷ before) u d.1) else 0)
        either false e = omega arith
        either true e =
            as_number_le _ _ (λ t.
            take_works topology before s u k d.1 (take_there topology before s u (take_facts topology before s u k h).first)
            (and_right (in_inbox topology before d) _ t)
            (subst (λ x. in_inbox topology before (x, d.1) ≡ true) (same_sub-true d.0 u e) (and_left (in_inbox topology before d) _ t)))

-- a stage at work on a take of so many units works on that many at least
pub busy : (topology : Topology) (before : History) (s : StageNo) (u : SubNo) (k : ℕ) → is_legal topology before ≡ true → is_live topology before s ≡ true → is_current before s 0 ≡ true → last_take before s ≡ Some (u, k) → Busy topology before s u k
busy topology [] s u k h live now e = cc
busy topology (Take t v j ∷ before) s u k h live now e =
    either (same_stage s t) refl e
    (λ other lt. busy_step topology before (Take t v j) s u k allowed (take_role topology before s u k legal lt) live (was_current before (Take t v j) s 0 (ap (λ b. b && true) other) now)
    (busy topology before s u k legal (was_live topology before (Take t v j) s refl live) (was_current before (Take t v j) s 0 (ap (λ b. b && true) other) now).current lt))
  where
    legal : is_legal topology before ≡ true
    legal = legal_before topology before (Take t v j) h

    allowed : allows topology before (Take t v j) ≡ true
    allowed = legal_step topology before (Take t v j) h

    either : (b : Bool) → same_stage s t ≡ b → (if b then Some (v, j) else last_take before s) ≡ Some (u, k) → (same_stage s t ≡ false → last_take before s ≡ Some (u, k) → Busy topology (Take t v j ∷ before) s u k) → Busy topology (Take t v j ∷ before) s u k
    either false other e rest = rest other e
    either true same e rest =
        let pair : (v, j) ≡ (u, k) = some_same (v, j) (u, k) e in
        subst (λ x. Busy topology (Take x v j ∷ before) s u k) (same_stage-true s t same)
        (subst (λ p. Busy topology (Take s p.0 p.1 ∷ before) s u k) (sym pair)
        (take_busy topology before s u k
        (subst (λ p. allows topology before (Take s p.0 p.1) ≡ true) pair (subst (λ x. allows topology before (Take x v j) ≡ true) (sym (same_stage-true s t same)) allowed))))
      where
        some_same : (p q : SubNo × ℕ) → Some p ≡ Some q → p ≡ q
        some_same p q e = cc
busy topology (Fetch t n ∷ before) s u k h live now e = either (same_stage s t) refl (λ lives c. busy topology before s u k (legal_before topology before (Fetch t n) h) lives c e)
  where
    legal : is_legal topology before ≡ true
    legal = legal_before topology before (Fetch t n) h

    either : (b : Bool) → same_stage s t ≡ b → (is_live topology before s ≡ true → is_current before s 0 ≡ true → Busy topology before s u k) → Busy topology (Fetch t n ∷ before) s u k
    either true same earlier =
        absurd (two_roles topology s takes_role is_producer_role takes_producer (take_role topology before s u k legal e)
        (subst (λ x. has_role topology x is_producer_role ≡ true) (sym (same_stage-true s t same)) (fetch_role topology before t n (legal_step topology before (Fetch t n) h))))
    either false other earlier =
        let was : WasCurrent before (Fetch t n) s 0 = was_current before (Fetch t n) s 0 (ap (λ b. b && true) other) now in
        busy_step topology before (Fetch t n) s u k (legal_step topology before (Fetch t n) h) (take_role topology before s u k legal e) live was
        (earlier (was_live topology before (Fetch t n) s refl live) was.current)
busy topology (Child t m slot ∷ before) s u k h live now e = either (same_stage s t) refl (λ lives c. busy topology before s u k (legal_before topology before (Child t m slot) h) lives c e)
  where
    legal : is_legal topology before ≡ true
    legal = legal_before topology before (Child t m slot) h

    either : (b : Bool) → same_stage s t ≡ b → (is_live topology before s ≡ true → is_current before s 0 ≡ true → Busy topology before s u k) → Busy topology (Child t m slot ∷ before) s u k
    either true same earlier =
        absurd (two_roles topology s takes_role is_supervisor_role takes_supervisor (take_role topology before s u k legal e)
        (subst (λ x. has_role topology x is_supervisor_role ≡ true) (sym (same_stage-true s t same)) (child_facts topology before t m slot (legal_step topology before (Child t m slot) h)).role))
    either false other earlier =
        let was : WasCurrent before (Child t m slot) s 0 = was_current before (Child t m slot) s 0 (ap (λ b. b && 0 == slot) other) now in
        busy_step topology before (Child t m slot) s u k (legal_step topology before (Child t m slot) h) (take_role topology before s u k legal e) live was
        (earlier (was_live topology before (Child t m slot) s refl live) was.current)
busy topology (step ∷ before) s u k h live now e =
    let was : WasCurrent before step s 0 = was_current before step s 0 refl now in
    let legal : is_legal topology before ≡ true = legal_before topology before step h in
    busy_step topology before step s u k (legal_step topology before step h) (take_role topology before s u k legal e) live was
    (busy topology before s u k legal (was_live topology before step s was.unrestarted live) was.current e)
