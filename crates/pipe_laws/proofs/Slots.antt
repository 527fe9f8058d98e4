-- The message of a child that is out runs in its supervisor, and in no other slot.
use Rattle.std.proofs.Common.{◌≡◌, ℕ, ◌+◌, ◌*◌, ◌≤◌, List, [], ◌∷◌, Bool, true, false, refl, ap, sym, ◌∙◌, subst, Some, None, Option, inl, inr, arith}
use Rattle.std.specs.Prelude.{if◌then◌else◌, ◌==◌, ◌&&◌, ◌⊎◌}
use Rattle.std.proofs.lemmas.Bool.{eqb-true, eq-eqb, false_from_ne_true}
use Rattle.pipe_types.specs.declared.numbers.SubNo.{SubNo}
use Rattle.pipe_types.specs.declared.numbers.StageNo.{StageNo}
use Rattle.pipe_types.specs.declared.topology.Topology.{Topology}
use Rattle.pipe_types.specs.declared.topology.Role.{Role}
use Rattle.pipe_types.specs.declared.message.Place.{Place}
use Rattle.pipe_types.specs.declared.message.Place.TheVariants.{Inbox, Running, Acked}
use Rattle.pipe_types.specs.declared.message.Reply.{Reply}
use Rattle.pipe_types.specs.declared.step.Step.{Step}
use Rattle.pipe_types.specs.declared.step.Step.TheVariants.{Fetch, Take, Done, Wrote, Child, ChildEnd}
use Rattle.pipe_types.specs.Numbers.{same_stage, post}
use Rattle.pipe_types.specs.Stages.{spec_of}
use Rattle.pipe_model.specs.History.{History}
use Rattle.pipe_model.specs.Posts.{puts_out, in_slot}
use Rattle.pipe_model.specs.Lives.{is_live}
use Rattle.pipe_model.specs.Flow.{place, batch, is_batcher, in_inbox_by, leg_waits_in, sent_to, inbox, is_number}
use Rattle.pipe_model.specs.Legal.{is_legal, allows, is_current, has_role, takes_role, is_processor_role, is_producer_role, is_batch_processor_role, is_supervisor_role, first_unit, runs_number}
use Rattle.pipe_model.specs.Moves.{is_final}
use Rattle.pipe_laws.proofs.Tests.{clash, and_left, and_right, both, same_stage-true, same_stage-self, same_stage-flip}
use Rattle.pipe_laws.proofs.Lists.{first_kept, weigh}
use Rattle.pipe_laws.proofs.Places.{Move, stays, comes, comes_lost, sent_on, runs, waits, is_gathered, joins, ends, move_by}
use Rattle.pipe_laws.proofs.Levels.{rank, level, level_grows}
use Rattle.pipe_laws.proofs.Entries.{EntryFits, entries_fit}
use Rattle.pipe_laws.proofs.Allowed.{legal_before, legal_step, ChildFacts, child_facts, take_facts, done_facts, wrote_facts, fetch_role}
use Rattle.pipe_laws.proofs.Kept.{ends_work, runs_kept, runs_here}
use Rattle.pipe_laws.proofs.Busy.{WasCurrent, was_current, was_live, inbox_here}
use Rattle.pipe_laws.proofs.Idle.{roles_apart, fed_by_messages, other_stage}
use Rattle.pipe_model.specs.Standing.{in_inbox}
pub use Rattle.pipe_laws.proofs.Roles.{supervisor_writes, supervisor_produces, supervisor_takes, supervisor_processes}

-- where the first unit of a stage that takes messages stands
pub first_stands : (topology : Topology) (before : History) (s : StageNo) (one : Role → Bool) (n : ℕ) → ((role : Role) → one role ≡ true → is_batch_processor_role role ≡ true → ⊥) → has_role topology s one ≡ true → 1 ≤ n → n ≡ first_unit (inbox topology before s) → (u : SubNo) × (u.consumer ≡ s) × (place topology before n ≡ Some (Inbox u))
first_stands topology before s one n apart role some first = by_inbox (inbox topology before s) refl first
  where
    by_inbox : (units : List (SubNo × ℕ)) → inbox topology before s ≡ units → n ≡ first_unit units → (u : SubNo) × (u.consumer ≡ s) × (place topology before n ≡ Some (Inbox u))
    by_inbox [] e f = absurd (let x : n ≡ 0 = f in omega arith)
    by_inbox (d ∷ units) e f =
        let t = first_kept (EntryFits topology before s) (in_inbox topology before) (λ x. 0) (sent_to topology before s) d units (entries_fit topology before s) e in
        let plain : is_batcher (spec_of topology d.0.producer) ≡ false = fed_by_messages topology d.0.producer s one apart t.1.feeding role in
        let here : in_inbox_by d.0 (place topology before d.1) ≡ true = subst (λ b. (if b then leg_waits_in d.0 (batch topology before d.1) else in_inbox_by d.0 (place topology before d.1)) ≡ true) plain t.0 in
        (d.0, t.1.consumer, ap (place topology before) f ∙ inbox_here d.0 (place topology before d.1) here)

pub number_is : (o : Option ℕ) (n : ℕ) → is_number o n ≡ true → o ≡ Some n
number_is None n h = cc
number_is (Some m) n h = ap Some (eqb-true m n h)

some_same : (m n : ℕ) → Some m ≡ Some n → m ≡ n
some_same m n e = cc

-- where the message of a child stood before it started
record Started (topology : Topology) (before : History) (s : StageNo) (n slot : ℕ) : Type 0 where
  after : place topology (Child s (record { 0 = n }) slot ∷ before) n ≡ Some (Running s)
  before_it : (place topology before n ≡ Some (Running s)) × (in_slot before s slot ≡ Some n) ⊎ (level topology (place topology before n) ≡ 4 * rank topology s)

started : (topology : Topology) (before : History) (s : StageNo) (n slot : ℕ) → allows topology before (Child s (record { 0 = n }) slot) ≡ true → Started topology before s n slot
started topology before s n slot h = either (runs_number topology before s (in_slot before s slot)) refl
  where
    facts : ChildFacts topology before s n slot
    facts = child_facts topology before s (record { 0 = n }) slot h

    ran : runs_number topology before s (Some n) ≡ true → place topology before n ≡ Some (Running s)
    ran r = runs_here s (place topology before n) r

    either : (b : Bool) → runs_number topology before s (in_slot before s slot) ≡ b → Started topology before s n slot
    either true e =
        let own : in_slot before s slot ≡ Some n = number_is (in_slot before s slot) n (facts.again e) in
        let running : place topology before n ≡ Some (Running s) = ran (ap (runs_number topology before s) (sym own) ∙ e) in
        record { after = rw running refl; before_it = inl (running, own) }
    either false e =
        let new = facts.new e in
        let t = first_stands topology before s is_supervisor_role n supervisor_writes facts.role new.0 new.1 in
        let here : same_stage s t.0.consumer ≡ true = ap (same_stage s) t.1 ∙ same_stage-self s in
        record {
          after = rw (t.2, here, eq-eqb n n refl) refl;
          before_it = inr (ap (level topology) t.2 ∙ ap (λ x. 4 * rank topology x) t.1);
        }

-- a message that a child was started for has begun to run, or is past that
pub slot_reached : (topology : Topology) (before : History) (s : StageNo) (slot n : ℕ) → is_legal topology before ≡ true → in_slot before s slot ≡ Some n → 4 * rank topology s + 1 ≤ level topology (place topology before n)
slot_reached topology [] s slot n h e = cc
slot_reached topology (Child t m k ∷ before) s slot n h e =
    either (same_stage s t && k == slot) refl e (slot_reached topology before s slot n (legal_before topology before (Child t m k) h))
  where
    either : (b : Bool) → (same_stage s t && k == slot) ≡ b → (if b then Some m.0 else in_slot before s slot) ≡ Some n → (in_slot before s slot ≡ Some n → 4 * rank topology s + 1 ≤ level topology (place topology before n)) → 4 * rank topology s + 1 ≤ level topology (place topology (Child t m k ∷ before) n)
    either true here e rest =
        let is : m.0 ≡ n = some_same m.0 n e in
        let start : Started topology before t m.0 k = started topology before t m.0 k (legal_step topology before (Child t m k) h) in
        let now : level topology (place topology (Child t m k ∷ before) n) ≡ 4 * rank topology t + 1 = ap (λ x. level topology (place topology (Child t m k ∷ before) x)) (sym is) ∙ ap (level topology) start.after in
        let same : rank topology s ≡ rank topology t = ap (rank topology) (same_stage-true s t (and_left (same_stage s t) _ here)) in
        omega arith
    either false other e rest = omega (arith, rest e, level_grows topology before (Child t m k) _ _ (move_by topology before (Child t m k) n))
slot_reached topology (step ∷ before) s slot n h e =
    omega (arith, slot_reached topology before s slot n (legal_before topology before step h) e, level_grows topology before step _ _ (move_by topology before step n))

-- what runs after a step ran before it, or stood in an inbox of the stage
ran_or_stood : (topology : Topology) (before : History) (step : Step) (s : StageNo) (p q : Option Place) → Move topology before step p q → q ≡ Some (Running s) → (p ≡ Some (Running s)) ⊎ (level topology p ≡ 4 * rank topology s)
ran_or_stood topology before step s p q stays e = inl e
ran_or_stood topology before step s p q (runs u from) e =
    let same : u.consumer ≡ s = cc in
    inr (ap (λ x. 4 * rank topology x) same)
ran_or_stood topology before step s p q (comes t) e = cc
ran_or_stood topology before step s p q (comes_lost loss) e = cc
ran_or_stood topology before step s p q (sent_on t u on) e = cc
ran_or_stood topology before step s p q (waits t) e = cc
ran_or_stood topology before step s p q (is_gathered u) e = cc
ran_or_stood topology before step s p q (joins t b from) e = cc
ran_or_stood topology before step s p q (ends x y final) e = not_final y final e
  where
    not_final : (y : Place) → is_final (Some y) ≡ true → Some y ≡ Some (Running s) → (Some x ≡ Some (Running s)) ⊎ (level topology (Some x) ≡ 4 * rank topology s)
    not_final (Acked o) f e = cc
    not_final _ f e = cc

-- a slot's message that runs after a step ran before it
pub ran_before : (topology : Topology) (before : History) (step : Step) (s : StageNo) (slot n : ℕ) → is_legal topology before ≡ true → in_slot before s slot ≡ Some n → place topology (step ∷ before) n ≡ Some (Running s) → place topology before n ≡ Some (Running s)
ran_before topology before step s slot n h e now = either (ran_or_stood topology before step s _ _ (move_by topology before step n) now)
  where
    either : (place topology before n ≡ Some (Running s)) ⊎ (level topology (place topology before n) ≡ 4 * rank topology s) → place topology before n ≡ Some (Running s)
    either (inl ran) = ran
    either (inr stood) = absurd (omega (arith, slot_reached topology before s slot n h e))

-- a running message is in one slot
pub one_slot : (topology : Topology) (before : History) (s : StageNo) (a b n : ℕ) → is_legal topology before ≡ true → in_slot before s a ≡ Some n → in_slot before s b ≡ Some n → place topology before n ≡ Some (Running s) → a ≡ b
one_slot topology [] s a b n h ea eb now = cc
one_slot topology (Child t m k ∷ before) s a b n h ea eb now =
    either (same_stage s t) refl (k == a) refl (k == b) refl ea eb (λ x y fa fb ran. one_slot topology before s x y n legal fa fb ran)
  where
    legal : is_legal topology before ≡ true
    legal = legal_before topology before (Child t m k) h

    -- the slot k was started with n, and another holds n
    other_holds : same_stage s t ≡ true → m.0 ≡ n → (c : ℕ) → in_slot before s c ≡ Some n → ((x y : ℕ) → in_slot before s x ≡ Some n → in_slot before s y ≡ Some n → place topology before n ≡ Some (Running s) → x ≡ y) → k ≡ c
    other_holds here is c holds rest =
        let same : s ≡ t = same_stage-true s t here in
        let allowed : allows topology before (Child s (record { 0 = n }) k) ≡ true = subst (λ x. allows topology before (Child x (record { 0 = n }) k) ≡ true) (sym same) (subst (λ x. allows topology before (Child t (record { 0 = x }) k) ≡ true) is (legal_step topology before (Child t m k) h)) in
        by_start (started topology before s n k allowed).before_it
      where
        by_start : (place topology before n ≡ Some (Running s)) × (in_slot before s k ≡ Some n) ⊎ (level topology (place topology before n) ≡ 4 * rank topology s) → k ≡ c
        by_start (inl p) = rest k c p.1 holds p.0
        by_start (inr stood) = absurd (omega (arith, slot_reached topology before s c n legal holds))

    either : (d : Bool) → same_stage s t ≡ d → (x : Bool) → (k == a) ≡ x → (y : Bool) → (k == b) ≡ y → (if d && x then Some m.0 else in_slot before s a) ≡ Some n → (if d && y then Some m.0 else in_slot before s b) ≡ Some n → ((x y : ℕ) → in_slot before s x ≡ Some n → in_slot before s y ≡ Some n → place topology before n ≡ Some (Running s) → x ≡ y) → a ≡ b
    either true d true x true y ea eb rest = sym (eqb-true k a x) ∙ eqb-true k b y
    either true d true x false y ea eb rest = sym (eqb-true k a x) ∙ other_holds d (some_same m.0 n ea) b eb rest
    either true d false x true y ea eb rest = sym (sym (eqb-true k b y) ∙ other_holds d (some_same m.0 n eb) a ea rest)
    either true d false x false y ea eb rest = rest a b ea eb (ran_before topology before (Child t m k) s a n legal ea now)
    either false d x ex y ey ea eb rest = rest a b ea eb (ran_before topology before (Child t m k) s a n legal ea now)
one_slot topology (step ∷ before) s a b n h ea eb now =
    one_slot topology before s a b n (legal_before topology before step h) ea eb (ran_before topology before step s a n (legal_before topology before step h) ea now)

-- Children at work

slot_step : (topology : Topology) (before : History) (step : Step) (s : StageNo) (slot n : ℕ) → is_live topology (step ∷ before) s ≡ true → is_current (step ∷ before) s slot ≡ true → puts_out step (post s slot) ≡ false → ends_work step s ≡ false → (is_live topology before s ≡ true → is_current before s slot ≡ true → place topology before n ≡ Some (Running s)) → place topology (step ∷ before) n ≡ Some (Running s)
slot_step topology before step s slot n live now quiet no_end old =
    let was : WasCurrent before step s slot = was_current before step s slot quiet now in
    runs_kept topology before step s n no_end live (old (was_live topology before step s was.unrestarted live) was.current)

and_false : (a b : Bool) → a ≡ false → (a && b) ≡ false
and_false a b e = ap (λ x. x && b) e

-- another child's end leaves the message
pub ended_other : (topology : Topology) (before : History) (t s : StageNo) (k n : ℕ) (reply : Reply) → place topology before n ≡ Some (Running s) → (is_number (in_slot before t k) n ≡ true → ⊥) → place topology (ChildEnd t k reply ∷ before) n ≡ Some (Running s)
ended_other topology before t s k n reply running other = rw (running, false_from_ne_true (is_number (in_slot before t k) n) other) (by_stage (same_stage t s) _)
  where
    by_stage : (b : Bool) (p : Place) → Some (if b && false then p else Running s) ≡ Some (Running s)
    by_stage true p = refl
    by_stage false p = refl

-- while a child is out its message runs
pub slot_runs : (topology : Topology) (before : History) (s : StageNo) (slot n : ℕ) → is_legal topology before ≡ true → has_role topology s is_supervisor_role ≡ true → is_live topology before s ≡ true → is_current before s slot ≡ true → in_slot before s slot ≡ Some n → place topology before n ≡ Some (Running s)
slot_runs topology [] s slot n h role live now e = cc
slot_runs topology (Child t m k ∷ before) s slot n h role live now e =
    either (same_stage s t && k == slot) refl e (λ alive current own. slot_runs topology before s slot n legal role alive current own)
  where
    legal : is_legal topology before ≡ true
    legal = legal_before topology before (Child t m k) h

    flipped : (a b c : Bool) → b ≡ c → (a && b) ≡ (a && c)
    flipped a b c e = ap (λ x. a && x) e

    either : (b : Bool) → (same_stage s t && k == slot) ≡ b → (if b then Some m.0 else in_slot before s slot) ≡ Some n → (is_live topology before s ≡ true → is_current before s slot ≡ true → in_slot before s slot ≡ Some n → place topology before n ≡ Some (Running s)) → place topology (Child t m k ∷ before) n ≡ Some (Running s)
    either true here e old =
        let is : m.0 ≡ n = some_same m.0 n e in
        let start : Started topology before t m.0 k = started topology before t m.0 k (legal_step topology before (Child t m k) h) in
        ap (place topology (Child t m k ∷ before)) (sym is) ∙ (start.after ∙ ap (λ x. Some (Running x)) (sym (same_stage-true s t (and_left (same_stage s t) _ here))))
    either false other e old =
        slot_step topology before (Child t m k) s slot n live now (swap other) refl (λ alive current. old alive current e)
      where
        swap : (same_stage s t && k == slot) ≡ false → (same_stage s t && slot == k) ≡ false
        swap f = false_from_ne_true (same_stage s t && slot == k) (λ g. clash (same_stage s t && k == slot) (both (same_stage s t) (k == slot) (and_left (same_stage s t) _ g) (eq-eqb k slot (sym (eqb-true slot k (and_right (same_stage s t) _ g))))) f)
slot_runs topology (ChildEnd t k reply ∷ before) s slot n h role live now e =
    let was : WasCurrent before (ChildEnd t k reply) s slot = was_current before (ChildEnd t k reply) s slot refl now in
    let running : place topology before n ≡ Some (Running s) = slot_runs topology before s slot n (legal_before topology before (ChildEnd t k reply) h) role (was_live topology before (ChildEnd t k reply) s refl live) was.current e in
    either (same_stage t s) refl was running
  where
    legal : is_legal topology before ≡ true
    legal = legal_before topology before (ChildEnd t k reply) h

    either : (b : Bool) → same_stage t s ≡ b → WasCurrent before (ChildEnd t k reply) s slot → place topology before n ≡ Some (Running s) → place topology (ChildEnd t k reply ∷ before) n ≡ Some (Running s)
    either false other was running = runs_kept topology before (ChildEnd t k reply) s n other live running
    either true same was running =
        ended_other topology before t s k n reply running
        (λ mine. let ts : t ≡ s = same_stage-true t s same in
        let own : in_slot before s k ≡ Some n = ap (λ x. in_slot before x k) (sym ts) ∙ number_is (in_slot before t k) n mine in
        let ks : k ≡ slot = one_slot topology before s k slot n legal own e running in
        clash (same_stage s t && slot == k) (both (same_stage s t) (slot == k) (same_stage-flip t s same) (eq-eqb slot k (sym ks))) was.unanswered)
slot_runs topology (Fetch t m ∷ before) s slot n h role live now e =
    slot_step topology before (Fetch t m) s slot n live now
    (and_false (same_stage s t) (slot == 0) (roles_apart topology s t is_supervisor_role is_producer_role supervisor_produces role (fetch_role topology before t m (legal_step topology before (Fetch t m) h)))) refl
    (λ alive current. slot_runs topology before s slot n (legal_before topology before (Fetch t m) h) role alive current e)
slot_runs topology (Take t u k ∷ before) s slot n h role live now e =
    slot_step topology before (Take t u k) s slot n live now
    (and_false (same_stage s t) (slot == 0) (roles_apart topology s t is_supervisor_role takes_role supervisor_takes role (take_facts topology before t u k (legal_step topology before (Take t u k) h)).role)) refl
    (λ alive current. slot_runs topology before s slot n (legal_before topology before (Take t u k) h) role alive current e)
slot_runs topology (Done t replies ∷ before) s slot n h role live now e =
    slot_step topology before (Done t replies) s slot n live now refl
    (other_stage s t (roles_apart topology s t is_supervisor_role is_processor_role supervisor_processes role (done_facts topology before t replies (legal_step topology before (Done t replies) h)).role))
    (λ alive current. slot_runs topology before s slot n (legal_before topology before (Done t replies) h) role alive current e)
slot_runs topology (Wrote t bytes end ∷ before) s slot n h role live now e =
    slot_step topology before (Wrote t bytes end) s slot n live now refl
    (other_stage s t (roles_apart topology s t is_supervisor_role is_batch_processor_role supervisor_writes role (wrote_facts topology before t bytes end (legal_step topology before (Wrote t bytes end) h)).role))
    (λ alive current. slot_runs topology before s slot n (legal_before topology before (Wrote t bytes end) h) role alive current e)
slot_runs topology (step ∷ before) s slot n h role live now e =
    slot_step topology before step s slot n live now refl refl
    (λ alive current. slot_runs topology before s slot n (legal_before topology before step h) role alive current e)

-- the first unit of an inbox, as an entry of what was sent
pub first_entry : (topology : Topology) (before : History) (s : StageNo) (n : ℕ) → 1 ≤ n → n ≡ first_unit (inbox topology before s) → (stop : SubNo × ℕ → ℕ) → (d : SubNo × ℕ) × (d.1 ≡ n) × EntryFits topology before s d × (in_inbox topology before d ≡ true) × (stop d ≤ weigh stop (sent_to topology before s))
first_entry topology before s n some first stop = by_inbox (inbox topology before s) refl first
  where
    by_inbox : (units : List (SubNo × ℕ)) → inbox topology before s ≡ units → n ≡ first_unit units → (d : SubNo × ℕ) × (d.1 ≡ n) × EntryFits topology before s d × (in_inbox topology before d ≡ true) × (stop d ≤ weigh stop (sent_to topology before s))
    by_inbox [] e f = absurd (let x : n ≡ 0 = f in omega arith)
    by_inbox (d ∷ units) e f =
        let t = first_kept (EntryFits topology before s) (in_inbox topology before) stop (sent_to topology before s) d units (entries_fit topology before s) e in
        (d, sym f, t.1, t.0, t.2)
