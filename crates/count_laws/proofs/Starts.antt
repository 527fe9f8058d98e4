-- A message is started as a child once more at most than its children crash.
use Rattle.std.proofs.Common.{◌≡◌, ℕ, ◌+◌, ◌*◌, ◌≤◌, [], ◌∷◌, Bool, true, false, refl, ap, sym, ◌∙◌, subst, Some, None, Option, arith, inl, inr}
use Rattle.std.specs.Prelude.{if◌then◌else◌, not, ◌==◌, ◌&&◌, ◌||◌, option_map, ◌⊎◌}
use Rattle.std.proofs.lemmas.Bool.{eqb-true, eq-eqb}
use Rattle.pipe_types.specs.declared.numbers.StageNo.{StageNo}
use Rattle.pipe_types.specs.declared.numbers.MsgNo.{MsgNo}
use Rattle.pipe_types.specs.declared.numbers.SubNo.{SubNo}
use Rattle.pipe_types.specs.declared.topology.Topology.{Topology}
use Rattle.pipe_types.specs.declared.topology.StageSpec.{StageSpec}
use Rattle.pipe_types.specs.declared.topology.Role.{Role}
use Rattle.pipe_types.specs.declared.topology.Role.TheVariants.{Supervisor}
use Rattle.pipe_types.specs.declared.message.Place.{Place}
use Rattle.pipe_types.specs.declared.message.Place.TheVariants.{Inbox, Running}
use Rattle.pipe_types.specs.declared.message.Reply.{Reply}
use Rattle.pipe_types.specs.declared.message.Reply.TheVariants.{Pass, Failed, Raised, Crashed}
use Rattle.pipe_types.specs.declared.step.Step.{Step}
use Rattle.pipe_types.specs.declared.step.Step.TheVariants.{Accept, Quiet, SourceEnd, Done, Wrote, Child, ChildEnd, Late, Restart}
use Rattle.pipe_types.specs.Numbers.{stage, post, same_stage}
use Rattle.pipe_types.specs.Stages.{spec_of}
use Rattle.pipe_model.specs.History.{History, incarnation, controls}
use Rattle.pipe_model.specs.Posts.{is_out, out_from, puts_out, answers, in_slot, crashes, crashed_as}
use Rattle.pipe_model.specs.Lives.{is_live, restarts}
use Rattle.pipe_model.specs.Flow.{place, among, child_started, child_ended, child_place, is_number, runs_again}
use Rattle.pipe_model.specs.Moves.{is_final}
use Rattle.pipe_model.specs.Legal.{is_legal, allows, has_role, is_supervisor_role, is_producer_role, is_processor_role, is_batch_processor_role, is_current, runs_number, has_ended, same_truth, is_limit}
use Rattle.pipe_laws.proofs.Tests.{clash, and_left, and_right, both, same_stage-true, same_stage-self}
use Rattle.pipe_laws.proofs.Places.{Move, stays, comes, comes_lost, sent_on, runs, waits, is_gathered, joins, ends, move_by}
use Rattle.pipe_laws.proofs.Levels.{rank, level, level_grows}
use Rattle.pipe_laws.proofs.Busy.{two_roles, same_incarnation}
use Rattle.pipe_laws.proofs.Kept.{runs_here}
use Rattle.pipe_laws.proofs.Held.{held, stands_live}
use Rattle.pipe_laws.proofs.Slots.{first_stands, supervisor_writes, number_is, slot_reached, one_slot, supervisor_produces, supervisor_processes}
use Rattle.pipe_laws.proofs.Allowed.{legal_before, legal_step, unowed, accept_role, done_facts, wrote_facts, ChildFacts, child_facts, LateFacts, late_facts, restart_dead}
use Rattle.count_laws.specs.Counts.{child_starts}

-- Roles

-- a supervisor stands in the second rank
second : (topology : Topology) (s : StageNo) → has_role topology s is_supervisor_role ≡ true → rank topology s ≡ 1
second topology s h = by_spec (spec_of topology s) refl
  where
    by_role : (spec : StageSpec) (role : Role) → spec.role ≡ role → is_supervisor_role role ≡ true → spec_of topology s ≡ Some spec → rank topology s ≡ 1
    by_role spec Supervisor is k e = rw (e, is) refl
    by_role spec _ is k e = let x : false ≡ true = k in cc

    by_spec : (o : Option StageSpec) → spec_of topology s ≡ o → rank topology s ≡ 1
    by_spec None e = let x : has_role topology s is_supervisor_role ≡ false = rw e refl in clash (has_role topology s is_supervisor_role) h x
    by_spec (Some spec) e = let x : has_role topology s is_supervisor_role ≡ is_supervisor_role spec.role = rw e refl in by_role spec spec.role refl (sym x ∙ h) e

-- a slot that was ever filled is a supervisor's
slot_role : (topology : Topology) (before : History) (s : StageNo) (slot n : ℕ) → is_legal topology before ≡ true → in_slot before s slot ≡ Some n → has_role topology s is_supervisor_role ≡ true
slot_role topology [] s slot n h e = cc
slot_role topology (Child t m k ∷ before) s slot n h e = either (same_stage s t && k == slot) refl e (slot_role topology before s slot n (legal_before topology before (Child t m k) h))
  where
    either : (b : Bool) → (same_stage s t && k == slot) ≡ b → (if b then Some m.0 else in_slot before s slot) ≡ Some n → (in_slot before s slot ≡ Some n → has_role topology s is_supervisor_role ≡ true) → has_role topology s is_supervisor_role ≡ true
    either true here e rest =
        subst (λ x. has_role topology x is_supervisor_role ≡ true) (sym (same_stage-true s t (and_left (same_stage s t) _ here)))
        (child_facts topology before t m k (legal_step topology before (Child t m k) h)).role
    either false other e rest = rest e
slot_role topology (step ∷ before) s slot n h e = slot_role topology before s slot n (legal_before topology before step h) e

-- a message runs in a live stage only
runs_live : (topology : Topology) (before : History) (s : StageNo) (n : ℕ) → is_legal topology before ≡ true → place topology before n ≡ Some (Running s) → is_live topology before s ≡ true
runs_live topology before s n h e = ap (stands_live (is_live topology before)) (sym e) ∙ held topology before n h

-- what runs after a step, and was past the inboxes of its stage, ran before it
ran : (topology : Topology) (before : History) (step : Step) (s : StageNo) (p q : Option Place) → Move topology before step p q → q ≡ Some (Running s) → 4 * rank topology s + 1 ≤ level topology p → p ≡ Some (Running s)
ran topology before step s p q stays e far = e
ran topology before step s p q (runs u from) e far = let same : u.consumer ≡ s = cc in let less : rank topology u.consumer ≡ rank topology s = ap (rank topology) same in absurd (omega arith)
ran topology before step s p q (comes t) e far = cc
ran topology before step s p q (comes_lost loss) e far = cc
ran topology before step s p q (sent_on t u on) e far = cc
ran topology before step s p q (waits t) e far = cc
ran topology before step s p q (is_gathered u) e far = cc
ran topology before step s p q (joins t b from) e far = cc
ran topology before step s p q (ends x y final) e far = let off : is_final (Some y) ≡ false = ap is_final e in clash (is_final (Some y)) final off

-- what a slot's message that runs has: its child is out, or crashed
abbrev Again : Topology → History → StageNo → ℕ → ℕ → Type 0
Again topology before s slot n = (is_current before s slot ≡ true) ⊎ (child_starts before n ≤ crashes before n)

record Started (topology : Topology) (before : History) (n : ℕ) : Type 0 where
  few : child_starts before n ≤ 1 + crashes before n
  fresh : (child_starts before n ≡ 0) ⊎ (5 ≤ level topology (place topology before n))
  again : (s : StageNo) (slot : ℕ) → place topology before n ≡ Some (Running s) → in_slot before s slot ≡ Some n → Again topology before s slot n

crashes_more : (before : History) (step : Step) (n : ℕ) → crashes before n ≤ crashes (step ∷ before) n
crashes_more before (ChildEnd s slot reply) n = by_slot (in_slot before s slot) reply
  where
    by_slot : (o : Option ℕ) (r : Reply) → crashes before n ≤ crashed_as o r n (crashes before n)
    by_slot (Some m) Crashed = either (m == n)
      where
        either : (b : Bool) → crashes before n ≤ (if b then crashes before n + 1 else crashes before n)
        either true = omega arith
        either false = omega arith
    by_slot None r = omega arith
    by_slot (Some m) (Pass p) = omega arith
    by_slot (Some m) (Failed why) = omega arith
    by_slot (Some m) (Raised why) = omega arith
crashes_more before _ n = omega arith

-- a post that is out from the present incarnation stays so, unless it is answered or the stage restarted
stays_current : (before : History) (step : Step) (s : StageNo) (slot : ℕ) → restarts step s ≡ false → answers step (post s slot) ≡ false → is_current before s slot ≡ true → is_current (step ∷ before) s slot ≡ true
stays_current before step s slot unrestarted unanswered now = either (puts_out step (post s slot)) (answers step (post s slot)) unanswered
  where
    same : incarnation (step ∷ before) s ≡ incarnation before s
    same = same_incarnation step s (incarnation before s) unrestarted

    either : (p a : Bool) → a ≡ false → ((p || (not a && is_out before (post s slot))) && ((if p then incarnation before s else out_from before (post s slot)) == incarnation (step ∷ before) s)) ≡ true
    either true a f = eq-eqb (incarnation before s) (incarnation (step ∷ before) s) (sym same)
    either false true f = cc
    either false false f = subst (λ i. (is_out before (post s slot) && (out_from before (post s slot) == i)) ≡ true) (sym same) now

-- where the end of its child leaves a message
child_left : (topology : Topology) (before : History) (t : StageNo) (k n : ℕ) (reply : Reply) → place topology before n ≡ Some (Running t) → in_slot before t k ≡ Some n → place topology (ChildEnd t k reply ∷ before) n ≡ Some (child_place (runs_again (spec_of topology t) (crashes before n)) t (incarnation before t) reply)
child_left topology before t k n reply here own =
    ap (option_map (child_ended (runs_again (spec_of topology t) (crashes before n)) (in_slot before t k) t (incarnation before t) reply n)) here
    ∙ ap (λ b. Some (if b then child_place (runs_again (spec_of topology t) (crashes before n)) t (incarnation before t) reply else Running t)) (both (same_stage t t) (is_number (in_slot before t k) n) (same_stage-self t) (ap (λ o. is_number o n) own ∙ eq-eqb n n refl))

-- an answer at the slot of a message that runs on is a crash of its child
ended : (topology : Topology) (before : History) (step : Step) (s : StageNo) (slot n : ℕ) → is_legal topology (step ∷ before) ≡ true → answers step (post s slot) ≡ true → place topology (step ∷ before) n ≡ Some (Running s) → place topology before n ≡ Some (Running s) → in_slot before s slot ≡ Some n → is_current before s slot ≡ true → crashes (step ∷ before) n ≡ crashes before n + 1
ended topology before step s slot n h a now here own current = by_step step (legal_step topology before step h) a now
  where
    role : has_role topology s is_supervisor_role ≡ true
    role = slot_role topology before s slot n (legal_before topology before step h) own

    cross : (t : StageNo) (b : Bool) (other : Role → Bool) → ((r : Role) → is_supervisor_role r ≡ true → other r ≡ true → ⊥) → (same_stage s t && b) ≡ true → has_role topology t other ≡ true → ⊥
    cross t b other apart e k = two_roles topology t is_supervisor_role other apart (subst (λ x. has_role topology x is_supervisor_role ≡ true) (same_stage-true s t (and_left (same_stage s t) b e)) role) k

    by_step : (step : Step) → allows topology before step ≡ true → answers step (post s slot) ≡ true → place topology (step ∷ before) n ≡ Some (Running s) → crashes (step ∷ before) n ≡ crashes before n + 1
    by_step (ChildEnd t k reply) l e now = by_reply reply refl (sym (child_left topology before t k n reply running held) ∙ now)
      where
        there : s ≡ t
        there = same_stage-true s t (and_left (same_stage s t) _ e)

        held : in_slot before t k ≡ Some n
        held = subst (λ x. in_slot before x k ≡ Some n) there (subst (λ x. in_slot before s x ≡ Some n) (eqb-true slot k (and_right (same_stage s t) _ e)) own)

        running : place topology before n ≡ Some (Running t)
        running = here ∙ ap (λ x. Some (Running x)) there

        by_reply : (r : Reply) → reply ≡ r → Some (child_place (runs_again (spec_of topology t) (crashes before n)) t (incarnation before t) reply) ≡ Some (Running s) → crashes (ChildEnd t k reply ∷ before) n ≡ crashes before n + 1
        by_reply Crashed f q = (λ i. crashed_as (held i) (f i) n (crashes before n)) ∙ ap (λ b. if b then crashes before n + 1 else crashes before n) (eq-eqb n n refl)
        by_reply _ f q = let x = ap (λ r. Some (child_place (runs_again (spec_of topology t) (crashes before n)) t (incarnation before t) r)) (sym f) ∙ q in cc
    by_step (Late t k i answer) l e now =
        let there : s ≡ t = same_stage-true s t (and_left (same_stage s t) _ e) in
        let from : is_current before t k ≡ true = subst (λ x. is_current before x k ≡ true) there (subst (λ x. is_current before s x ≡ true) (eqb-true slot k (and_right (same_stage s t) _ e)) current) in
        let facts : LateFacts topology before t k i answer = late_facts topology before t k i answer l in
        let out : out_from before (post t k) ≡ incarnation before t = eqb-true _ _ (and_right (is_out before (post t k)) _ from) in
        let live : is_live topology before t ≡ true = subst (λ x. is_live topology before x ≡ true) there (runs_live topology before s n (legal_before topology before step h) here) in
        clash (is_live topology before t && incarnation before t == i) (both (is_live topology before t) _ live (eq-eqb (incarnation before t) i (sym out ∙ facts.from))) facts.gone
    by_step (Accept t records) l e now = absurd (cross t _ is_producer_role supervisor_produces e (accept_role topology before t records l))
    by_step (Quiet t) l e now =
        absurd (cross t _ is_producer_role supervisor_produces e (and_left (has_role topology t is_producer_role) _ (and_right (is_live topology before t) _ (unowed topology before (Quiet t) (λ x. refl) (λ x. refl) l))))
    by_step (SourceEnd t how) l e now = by_stage (same_stage t (stage 0)) (and_left (not (same_stage t (stage 0))) _ e) (unowed topology before (SourceEnd t how) (λ x. refl) (λ x. refl) l)
      where
        by_stage : (b : Bool) → not b ≡ true → (if b then not (has_ended before t) && same_truth (is_limit how) (controls before == 10000) else is_live topology before t && (has_role topology t is_producer_role && (is_current before t 0 && not (is_limit how)))) ≡ true → crashes (SourceEnd t how ∷ before) n ≡ crashes before n + 1
        by_stage true f row = cc
        by_stage false f row =
            absurd (cross t _ is_producer_role supervisor_produces (and_right (not (same_stage t (stage 0))) _ e) (and_left (has_role topology t is_producer_role) _ (and_right (is_live topology before t) _ row)))
    by_step (Done t replies) l e now = absurd (cross t _ is_processor_role supervisor_processes e (done_facts topology before t replies l).role)
    by_step (Wrote t bytes end) l e now = absurd (cross t _ is_batch_processor_role supervisor_writes e (wrote_facts topology before t bytes end l).role)
    by_step _ l e now = let x : false ≡ true = e in cc

-- a step that does not start a child for the message
others : (topology : Topology) (before : History) (step : Step) (n : ℕ) → is_legal topology (step ∷ before) ≡ true → child_starts (step ∷ before) n ≡ child_starts before n → ((s : StageNo) (slot : ℕ) → in_slot (step ∷ before) s slot ≡ Some n → in_slot before s slot ≡ Some n) → Started topology before n → Started topology (step ∷ before) n
others topology before step n h same held old =
    record {
      few = omega (arith, same, old.few, crashes_more before step n);
      fresh = by_fresh old.fresh;
      again = λ s slot now own. again s slot now (held s slot own);
    }
  where
    legal : is_legal topology before ≡ true
    legal = legal_before topology before step h

    by_fresh : (child_starts before n ≡ 0) ⊎ (5 ≤ level topology (place topology before n)) → (child_starts (step ∷ before) n ≡ 0) ⊎ (5 ≤ level topology (place topology (step ∷ before) n))
    by_fresh (inl none) = inl (same ∙ none)
    by_fresh (inr far) = inr (omega (arith, far, level_grows topology before step _ _ (move_by topology before step n)))

    unrestarted : (s : StageNo) → is_live topology before s ≡ true → (step : Step) → allows topology before step ≡ true → restarts step s ≡ false
    unrestarted s live (Restart t) l = either (same_stage s t) refl
      where
        either : (b : Bool) → same_stage s t ≡ b → b ≡ false
        either false e = refl
        either true e = clash (is_live topology before t) (subst (λ x. is_live topology before x ≡ true) (same_stage-true s t e) live) (restart_dead topology before t l)
    unrestarted s live _ l = refl

    again : (s : StageNo) (slot : ℕ) → place topology (step ∷ before) n ≡ Some (Running s) → in_slot before s slot ≡ Some n → Again topology (step ∷ before) s slot n
    again s slot now own = by_old (old.again s slot here own)
      where
        here : place topology before n ≡ Some (Running s)
        here = ran topology before step s _ _ (move_by topology before step n) now (slot_reached topology before s slot n legal own)

        by_old : Again topology before s slot n → Again topology (step ∷ before) s slot n
        by_old (inr low) = inr (omega (arith, same, low, crashes_more before step n))
        by_old (inl current) = by_answers (answers step (post s slot)) refl
          where
            by_answers : (b : Bool) → answers step (post s slot) ≡ b → Again topology (step ∷ before) s slot n
            by_answers true a = inr (omega (arith, same, old.few, ended topology before step s slot n h a now here own current))
            by_answers false a = inl (stays_current before step s slot (unrestarted s (runs_live topology before s n legal here) step (legal_step topology before step h)) a current)

-- a child that starts: its message runs then, and it was never started or its last child crashed
record Starting (topology : Topology) (before : History) (t : StageNo) (m : MsgNo) (k n : ℕ) : Type 0 where
  runs : place topology (Child t m k ∷ before) n ≡ Some (Running t)
  low : child_starts before n ≤ crashes before n

starting : (topology : Topology) (before : History) (t : StageNo) (m : MsgNo) (k n : ℕ) → is_legal topology (Child t m k ∷ before) ≡ true → m.0 ≡ n → Started topology before n → Starting topology before t m k n
starting topology before t m k n h is old = either (runs_number topology before t (in_slot before t k)) refl
  where
    facts : ChildFacts topology before t m.0 k
    facts = child_facts topology before t m k (legal_step topology before (Child t m k) h)

    either : (b : Bool) → runs_number topology before t (in_slot before t k) ≡ b → Starting topology before t m k n
    either true e =
        record { runs = ap (option_map (child_started t m.0 n)) running; low = by_old (old.again t k running own) }
      where
        own : in_slot before t k ≡ Some n
        own = number_is (in_slot before t k) n (subst (λ x. is_number (in_slot before t k) x ≡ true) is (facts.again e))

        running : place topology before n ≡ Some (Running t)
        running = runs_here t (place topology before n) (ap (runs_number topology before t) (sym own) ∙ e)

        by_old : Again topology before t k n → child_starts before n ≤ crashes before n
        by_old (inl current) = clash (is_out before (post t k)) (and_left (is_out before (post t k)) _ current) facts.free
        by_old (inr low) = low
    either false e = record { runs = after; low = by_fresh old.fresh }
      where
        first : (u : SubNo) × (u.consumer ≡ t) × (place topology before n ≡ Some (Inbox u))
        first = subst (λ x. (u : SubNo) × (u.consumer ≡ t) × (place topology before x ≡ Some (Inbox u))) is (first_stands topology before t is_supervisor_role m.0 supervisor_writes facts.role (facts.new e).0 (facts.new e).1)

        after : place topology (Child t m k ∷ before) n ≡ Some (Running t)
        after =
            ap (option_map (child_started t m.0 n)) first.2
            ∙ ap (λ b. Some (if b then Running t else Inbox first.0)) (both (same_stage t first.0.consumer) (among (m.0 ∷ []) n) (ap (same_stage t) first.1 ∙ same_stage-self t) (ap (λ b. b || false) (eq-eqb m.0 n is)))

        by_fresh : (child_starts before n ≡ 0) ⊎ (5 ≤ level topology (place topology before n)) → child_starts before n ≤ crashes before n
        by_fresh (inl none) = omega (arith, none)
        by_fresh (inr far) =
            let at : level topology (place topology before n) ≡ 4 * rank topology first.0.consumer = ap (level topology) first.2 in
            let one : rank topology first.0.consumer ≡ 1 = ap (rank topology) first.1 ∙ second topology t facts.role in
            absurd (omega (arith, far, at, one))

started_step : (topology : Topology) (before : History) (step : Step) (n : ℕ) → is_legal topology (step ∷ before) ≡ true → Started topology before n → Started topology (step ∷ before) n
started_step topology before (Child t m k) n h old = either (m.0 == n) refl
  where
    held : (m.0 == n) ≡ false → (s : StageNo) (slot : ℕ) → in_slot (Child t m k ∷ before) s slot ≡ Some n → in_slot before s slot ≡ Some n
    held other s slot own = by_here (same_stage s t && k == slot) own
      where
        by_here : (b : Bool) → (if b then Some m.0 else in_slot before s slot) ≡ Some n → in_slot before s slot ≡ Some n
        by_here true e = let is : m.0 ≡ n = cc in clash (m.0 == n) (eq-eqb m.0 n is) other
        by_here false e = e

    begun : m.0 ≡ n → Started topology (Child t m k ∷ before) n
    begun is = record { few = omega (arith, more, start.low); fresh = inr far; again = again }
      where
        start : Starting topology before t m k n
        start = starting topology before t m k n h is old

        role : has_role topology t is_supervisor_role ≡ true
        role = (child_facts topology before t m k (legal_step topology before (Child t m k) h)).role

        more : child_starts (Child t m k ∷ before) n ≡ child_starts before n + 1
        more = ap (λ b. if b then child_starts before n + 1 else child_starts before n) (eq-eqb m.0 n is)

        far : 5 ≤ level topology (place topology (Child t m k ∷ before) n)
        far = let at : level topology (place topology (Child t m k ∷ before) n) ≡ 4 * rank topology t + 1 = ap (level topology) start.runs in omega (arith, at, second topology t role)

        own_slot : in_slot (Child t m k ∷ before) t k ≡ Some n
        own_slot = ap (λ b. if b then Some m.0 else in_slot before t k) (both (same_stage t t) (k == k) (same_stage-self t) (eq-eqb k k refl)) ∙ ap Some is

        current : is_current (Child t m k ∷ before) t k ≡ true
        current =
            ap (λ b. (b || is_out before (post t k)) && ((if b then incarnation before t else out_from before (post t k)) == incarnation before t)) (both (same_stage t t) (k == k) (same_stage-self t) (eq-eqb k k refl))
            ∙ eq-eqb (incarnation before t) (incarnation before t) refl

        again : (s : StageNo) (slot : ℕ) → place topology (Child t m k ∷ before) n ≡ Some (Running s) → in_slot (Child t m k ∷ before) s slot ≡ Some n → Again topology (Child t m k ∷ before) s slot n
        again s slot now own =
            let there : Some (Running t) ≡ Some (Running s) = sym start.runs ∙ now in
            let same : t ≡ s = cc in
            let at : k ≡ slot = one_slot topology (Child t m k ∷ before) s k slot n h (subst (λ x. in_slot (Child t m k ∷ before) x k ≡ Some n) same own_slot) own now in
            inl (subst (λ x. is_current (Child t m k ∷ before) s x ≡ true) at (subst (λ x. is_current (Child t m k ∷ before) x k ≡ true) same current))

    either : (b : Bool) → (m.0 == n) ≡ b → Started topology (Child t m k ∷ before) n
    either true e = begun (eqb-true m.0 n e)
    either false e = others topology before (Child t m k) n h (ap (λ b. if b then child_starts before n + 1 else child_starts before n) e) (held e) old
started_step topology before step n h old = others topology before step n h refl (λ s slot own. own) old

started : (topology : Topology) (before : History) (n : ℕ) → is_legal topology before ≡ true → Started topology before n
started topology [] n h = record { few = omega arith; fresh = inl refl; again = λ s slot now own. let x : None ≡ Some n = own in cc }
started topology (step ∷ before) n h = started_step topology before step n h (started topology before n (legal_before topology before step h))

-- no message is started as a child more often than its children crash and once more
pub child_starts_within : (topology : Topology) (before : History) (n : ℕ) → is_legal topology before ≡ true → child_starts before n ≤ 1 + crashes before n
child_starts_within topology before n h = (started topology before n h).few
