-- The child of a slot is the message that was last started there, while it runs.
use Rattle.std.proofs.Common.{◌≡◌, ℕ, ◌+◌, length, [], ◌∷◌, Bool, true, false, refl, ap, sym, ◌∙◌, subst, Some, None, Option}
use Rattle.std.specs.Prelude.{if◌then◌else◌, ◌&&◌, ◌==◌, option_map, is_some}
use Rattle.std.proofs.lemmas.Bool.{eqb-true, eq-eqb, false_from_ne_true}
use Rattle.pipe_types.specs.declared.numbers.StageNo.{StageNo}
use Rattle.pipe_types.specs.declared.topology.Topology.{Topology}
use Rattle.pipe_types.specs.declared.topology.StageSpec.{StageSpec}
use Rattle.pipe_types.specs.declared.message.Why.{Why}
use Rattle.pipe_types.specs.declared.message.Why.TheVariants.{Crash}
use Rattle.pipe_types.specs.declared.message.Loss.TheVariants.{Killed}
use Rattle.pipe_types.specs.declared.message.Place.TheVariants.{Waiting, Running, Lost}
use Rattle.pipe_types.specs.declared.message.Reply.{Reply}
use Rattle.pipe_types.specs.declared.message.Reply.TheVariants.{Pass, Failed as FailedReply, Raised, Crashed}
use Rattle.pipe_types.specs.declared.step.Step.{Step}
use Rattle.pipe_types.specs.declared.step.Step.TheVariants.{Ask, Fetch, Accept, Quiet, SourceEnd, Dispatch, Take, Done, Gather, Close, Wrote, Child, ChildEnd, Kill, Late, Restart, Tick, Drain, Halt, Refuse}
use Rattle.pipe_types.specs.declared.step.LateAnswer.TheVariants.{Records, Quiet as QuietAnswer, Source, Wrote as WroteAnswer, Nothing}
use Rattle.pipe_types.specs.Numbers.{same_stage, message_no}
use Rattle.pipe_types.specs.Stages.{spec_of}
use Rattle.pipe_model.specs.Batches.{Batch}
use Rattle.pipe_model.specs.History.{History, incarnation, accepted, closed}
use Rattle.pipe_model.specs.Posts.{in_slot, crashes, crashed_as}
use Rattle.pipe_model.specs.Lives.{KillSet, reason_in, kill_set, death}
use Rattle.pipe_model.specs.Content.{has_crash}
use Rattle.pipe_model.specs.Flow.{place, runs_in, taken, dispatched, gathered, put_in_batch, by_batch, killed, lost_with, done, answered, reply_to, child_place, runs_again, deliveries, alone, lost_over, view_of, next_units, closing, has_batchers_in, chunk_by, batch_after, child_ended, is_number, accepted_to, late_place}
use Rattle.pipe_model.specs.Legal.{is_legal, has_role, is_supervisor_role, is_processor_role}
use Rattle.pipe_laws.proofs.Tests.{clash, both, and_left, and_right, same_stage-true, same_stage-self}
use Rattle.pipe_laws.proofs.Allowed.{legal_before, legal_step, child_facts, child_end_facts, done_facts}
use Rattle.pipe_laws.proofs.Kept.{runs_here}
use Rattle.pipe_laws.proofs.Busy.{two_roles}
use Rattle.pipe_laws.proofs.Slots.{one_slot, slot_runs, number_is, ran_before, ended_other, supervisor_processes}
use Rattle.stage_laws.proofs.Supervised.{child_runs}
use Rattle.core_laws.specs.Columns.{child_row, child_left}
use Rattle.core_laws.specs.Slots.{child_if, child_of, child_in_slot}

running_here : (s : StageNo) → runs_in s (Some (Running s)) ≡ true
running_here s = same_stage-self s

-- whether the slot's message runs is as before, where the step leaves a running one running
runs_alike : (topology : Topology) (before : History) (step : Step) (s : StageNo) (slot n : ℕ) → is_legal topology before ≡ true → in_slot before s slot ≡ Some n
    → (place topology before n ≡ Some (Running s) → place topology (step ∷ before) n ≡ Some (Running s))
    → runs_in s (place topology (step ∷ before) n) ≡ runs_in s (place topology before n)
runs_alike topology before step s slot n legal e kept = by (runs_in s (place topology before n)) refl
  where
    by : (b : Bool) → runs_in s (place topology before n) ≡ b → runs_in s (place topology (step ∷ before) n) ≡ b
    by true ran = ap (runs_in s) (kept (runs_here s (place topology before n) ran)) ∙ running_here s
    by false idle =
        false_from_ne_true (runs_in s (place topology (step ∷ before) n))
        (λ now. clash (runs_in s (place topology before n))
        (ap (runs_in s) (ran_before topology before step s slot n legal e (runs_here s (place topology (step ∷ before) n) now)) ∙ running_here s) idle)

-- so is the child, where its crashes are as before
child_alike : (topology : Topology) (before : History) (step : Step) (s : StageNo) (slot : ℕ)
    → ((n : ℕ) → in_slot before s slot ≡ Some n → runs_in s (place topology (step ∷ before) n) ≡ runs_in s (place topology before n))
    → ((n : ℕ) → in_slot before s slot ≡ Some n → place topology before n ≡ Some (Running s) → crashes (step ∷ before) n ≡ crashes before n)
    → child_of topology before s (in_slot before s slot) ≡ child_of topology (step ∷ before) s (in_slot before s slot)
child_alike topology before step s slot moves same = by (in_slot before s slot) refl
  where
    row : (n : ℕ) (b : Bool) → runs_in s (place topology before n) ≡ b → (place topology before n ≡ Some (Running s) → crashes (step ∷ before) n ≡ crashes before n)
        → child_if b n (crashes before n) ≡ child_if b n (crashes (step ∷ before) n)
    row n true e f = ap (child_if true n) (sym (f (runs_here s (place topology before n) e)))
    row n false e f = refl

    by : (o : Option ℕ) → in_slot before s slot ≡ o → child_of topology before s o ≡ child_of topology (step ∷ before) s o
    by None e = refl
    by (Some n) e = row n (runs_in s (place topology before n)) refl (same n e) ∙ ap (λ b. child_if b n (crashes (step ∷ before) n)) (sym (moves n e))

-- only a supervisor has slots
pub slot_role : (topology : Topology) (before : History) (s : StageNo) (slot n : ℕ) → is_legal topology before ≡ true → in_slot before s slot ≡ Some n → has_role topology s is_supervisor_role ≡ true
slot_role topology [] s slot n h e = cc
slot_role topology (Child t m k ∷ before) s slot n h e =
    either (same_stage s t && k == slot) refl e (slot_role topology before s slot n (legal_before topology before (Child t m k) h))
  where
    either : (b : Bool) → (same_stage s t && k == slot) ≡ b → (if b then Some m.0 else in_slot before s slot) ≡ Some n → (in_slot before s slot ≡ Some n → has_role topology s is_supervisor_role ≡ true) → has_role topology s is_supervisor_role ≡ true
    either true here e rest =
        ap (λ x. has_role topology x is_supervisor_role) (same_stage-true s t (and_left (same_stage s t) _ here))
        ∙ (child_facts topology before t m k (legal_step topology before (Child t m k) h)).role
    either false other e rest = rest e
slot_role topology (step ∷ before) s slot n h e = slot_role topology before s slot n (legal_before topology before step h) e

-- ---- kills

-- the child of a killed stage is gone, and every other stays
killed_child : (topology : Topology) (before : History) (step : Step) (set : KillSet) (after : ℕ → Option Batch) (s : StageNo) (slot : ℕ) → is_legal topology before ≡ true
    → ((n : ℕ) → place topology (step ∷ before) n ≡ option_map (λ p. by_batch after n (killed set (incarnation before) p)) (place topology before n))
    → ((n : ℕ) → crashes (step ∷ before) n ≡ crashes before n)
    → child_row topology before s slot ≡ child_in_slot topology before s slot
    → (if is_some (reason_in set s) then None else child_row topology before s slot) ≡ child_of topology (step ∷ before) s (in_slot before s slot)
killed_child topology before step set after s slot legal placed same old = either (reason_in set s) refl
  where
    gone : (why : Why) → reason_in set s ≡ Some why → (n : ℕ) → in_slot before s slot ≡ Some n → runs_in s (place topology (step ∷ before) n) ≡ false
    gone why e n own =
        false_from_ne_true (runs_in s (place topology (step ∷ before) n))
        (λ now.
        let ran = ran_before topology before step s slot n legal own (runs_here s (place topology (step ∷ before) n) now) in
        let lost : place topology (step ∷ before) n ≡ Some (lost_with (incarnation before s) s (Some why) (Running s)) =
        placed n ∙ (ap (option_map (λ p. by_batch after n (killed set (incarnation before) p))) ran ∙ ap (λ w. Some (by_batch after n (lost_with (incarnation before s) s w (Running s)))) e) in
        clash (runs_in s (place topology (step ∷ before) n)) now (ap (runs_in s) lost))

    none : (why : Why) → reason_in set s ≡ Some why → (o : Option ℕ) → in_slot before s slot ≡ o → None ≡ child_of topology (step ∷ before) s o
    none why e None own = refl
    none why e (Some n) own = ap (λ b. child_if b n (crashes (step ∷ before) n)) (sym (gone why e n own))

    kept : reason_in set s ≡ None → (n : ℕ) → place topology before n ≡ Some (Running s) → place topology (step ∷ before) n ≡ Some (Running s)
    kept e n ran = placed n ∙ (ap (option_map (λ p. by_batch after n (killed set (incarnation before) p))) ran ∙ ap (λ w. Some (by_batch after n (lost_with (incarnation before s) s w (Running s)))) e)

    either : (why : Option Why) → reason_in set s ≡ why → (if is_some why then None else child_row topology before s slot) ≡ child_of topology (step ∷ before) s (in_slot before s slot)
    either (Some why) e = none why e (in_slot before s slot) refl
    either None e = old ∙ child_alike topology before step s slot (λ n own. runs_alike topology before step s slot n legal own (kept e n)) (λ n own ran. same n)

-- ---- a child's end

crashed_other : (o : Option ℕ) (reply : Reply) (n old : ℕ) → (is_number o n ≡ true → ⊥) → crashed_as o reply n old ≡ old
crashed_other None reply n old other = refl
crashed_other (Some m) (Pass x) n old other = refl
crashed_other (Some m) (FailedReply why) n old other = refl
crashed_other (Some m) (Raised why) n old other = refl
crashed_other (Some m) Crashed n old other = ap (λ b. if b then old + 1 else old) (false_from_ne_true (m == n) other)

-- what a child's end leaves in its slot
left_is : (spec : Option StageSpec) (t : StageNo) (i n old : ℕ) (reply : Reply)
    → child_left spec reply (Some (record { no = message_no n; crashes = old }))
    ≡ child_if (runs_in t (Some (child_place (runs_again spec old) t i reply))) n (crashed_as (Some n) reply n old)
left_is spec t i n old Crashed = either (runs_again spec old)
  where
    either : (b : Bool) → (if b then Some (record { no = message_no n; crashes = old + 1 }) else None) ≡ child_if (runs_in t (Some (if b then Running t else Lost (Killed t i Crash)))) n (if n == n then old + 1 else old)
    either true = ap (child_if true n) (sym (ap (λ b. if b then old + 1 else old) (eq-eqb n n refl))) ∙ ap (λ b. child_if b n (if n == n then old + 1 else old)) (sym (same_stage-self t))
    either false = refl
left_is spec t i n old _ = refl

ended_here : (topology : Topology) (before : History) (t : StageNo) (k : ℕ) (reply : Reply) → is_legal topology (ChildEnd t k reply ∷ before) ≡ true
    → child_row topology before t k ≡ child_in_slot topology before t k
    → child_left (spec_of topology t) reply (child_row topology before t k) ≡ child_of topology (ChildEnd t k reply ∷ before) t (in_slot before t k)
ended_here topology before t k reply h old = ap (child_left (spec_of topology t) reply) old ∙ by (in_slot before t k) refl
  where
    by : (o : Option ℕ) → in_slot before t k ≡ o → child_left (spec_of topology t) reply (child_of topology before t o) ≡ child_of topology (ChildEnd t k reply ∷ before) t o
    by None own = refl
    by (Some n) own =
        let facts = child_end_facts topology before t k reply (legal_step topology before (ChildEnd t k reply) h) in
        let ran = slot_runs topology before t k n (legal_before topology before (ChildEnd t k reply) h) facts.role facts.live facts.current own in
        let again = runs_again (spec_of topology t) (crashes before n) in
        let now : place topology (ChildEnd t k reply ∷ before) n ≡ Some (child_place again t (incarnation before t) reply) =
        ap (option_map (child_ended again (in_slot before t k) t (incarnation before t) reply n)) ran
        ∙ (ap (λ o. Some (if same_stage t t && is_number o n then child_place again t (incarnation before t) reply else Running t)) own
        ∙ ap (λ b. Some (if b then child_place again t (incarnation before t) reply else Running t)) (both (same_stage t t) (n == n) (same_stage-self t) (eq-eqb n n refl))) in
        ap (λ p. child_left (spec_of topology t) reply (child_if (runs_in t p) n (crashes before n))) ran
        ∙ (ap (λ b. child_left (spec_of topology t) reply (child_if b n (crashes before n))) (same_stage-self t)
        ∙ (left_is (spec_of topology t) t (incarnation before t) n (crashes before n) reply
        ∙ sym (ap (λ p. child_if (runs_in t p) n (crashed_as (in_slot before t k) reply n (crashes before n))) now
        ∙ ap (λ o. child_if (runs_in t (Some (child_place again t (incarnation before t) reply))) n (crashed_as o reply n (crashes before n))) own)))

-- ---- all steps

child_step : (topology : Topology) (before : History) (step : Step) (s : StageNo) (slot : ℕ) → is_legal topology (step ∷ before) ≡ true
    → ((t : StageNo) (k : ℕ) → child_row topology before t k ≡ child_in_slot topology before t k) → child_row topology (step ∷ before) s slot ≡ child_in_slot topology (step ∷ before) s slot
child_step topology before (Accept t records) s slot h old =
    old s slot
    ∙ child_alike topology before (Accept t records) s slot
    (λ n e. runs_alike topology before (Accept t records) s slot n (legal_before topology before (Accept t records) h) e (λ ran. ap (accepted_to (accepted before) (length records) (Waiting t) n) ran)) (λ n e f. refl)
child_step topology before (Late t k i (Records records)) s slot h old =
    old s slot
    ∙ child_alike topology before (Late t k i (Records records)) s slot
    (λ n e. runs_alike topology before (Late t k i (Records records)) s slot n (legal_before topology before (Late t k i (Records records)) h) e (λ ran. ap (accepted_to (accepted before) (length records) (late_place t i (death topology before t)) n) ran)) (λ n e f. refl)
child_step topology before (Dispatch t) s slot h old =
    old s slot
    ∙ child_alike topology before (Dispatch t) s slot
    (λ n e. runs_alike topology before (Dispatch t) s slot n (legal_before topology before (Dispatch t) h) e (λ ran. ap (option_map (dispatched (deliveries topology before t) (lost_over topology before (view_of topology before) t) (alone topology before t) t n)) ran)) (λ n e f. refl)
child_step topology before (Take t u k) s slot h old =
    old s slot
    ∙ child_alike topology before (Take t u k) s slot
    (λ n e. runs_alike topology before (Take t u k) s slot n (legal_before topology before (Take t u k) h) e (λ ran. ap (option_map (taken (next_units topology (view_of topology before) t u k) t n)) ran)) (λ n e f. refl)
child_step topology before (Done t replies) s slot h old =
    old s slot
    ∙ child_alike topology before (Done t replies) s slot
    (λ n e. runs_alike topology before (Done t replies) s slot n legal e (λ ran. kept n (elsewhere n e) ran (has_crash replies) refl)) (λ n e f. refl)
  where
    legal : is_legal topology before ≡ true
    legal = legal_before topology before (Done t replies) h

    elsewhere : (n : ℕ) → in_slot before s slot ≡ Some n → same_stage t s ≡ false
    elsewhere n e =
        false_from_ne_true (same_stage t s)
        (λ same.
        two_roles topology s is_supervisor_role is_processor_role supervisor_processes (slot_role topology before s slot n legal e)
        (subst (λ x. has_role topology x is_processor_role ≡ true) (same_stage-true t s same) (done_facts topology before t replies (legal_step topology before (Done t replies) h)).role))

    kept : (n : ℕ) → same_stage t s ≡ false → place topology before n ≡ Some (Running s) → (b : Bool) → has_crash replies ≡ b → place topology (Done t replies ∷ before) n ≡ Some (Running s)
    kept n other ran true e = ap (λ b. if b then place topology before n else option_map (done (has_batchers_in (spec_of topology t)) (chunk_by (view_of topology before) t) replies t n) (place topology before n)) e ∙ ran
    kept n other ran false e =
        ap (λ b. if b then place topology before n else option_map (done (has_batchers_in (spec_of topology t)) (chunk_by (view_of topology before) t) replies t n) (place topology before n)) e
        ∙ (ap (option_map (done (has_batchers_in (spec_of topology t)) (chunk_by (view_of topology before) t) replies t n)) ran
        ∙ ap (λ b. Some (if b then answered (has_batchers_in (spec_of topology t)) t (reply_to (chunk_by (view_of topology before) t) replies n) else Running s)) other)
child_step topology before (Gather t m) s slot h old =
    old s slot
    ∙ child_alike topology before (Gather t m) s slot
    (λ n e. runs_alike topology before (Gather t m) s slot n (legal_before topology before (Gather t m) h) e (λ ran. ap (option_map (gathered t m.0 n)) ran)) (λ n e f. refl)
child_step topology before (Close t first trigger) s slot h old =
    old s slot
    ∙ child_alike topology before (Close t first trigger) s slot
    (λ n e. runs_alike topology before (Close t first trigger) s slot n (legal_before topology before (Close t first trigger) h) e (λ ran. ap (option_map (put_in_batch (closing before (view_of topology before) t first.0) t (closed before + 1) n)) ran)) (λ n e f. refl)
child_step topology before (Wrote t bytes end) s slot h old =
    old s slot
    ∙ child_alike topology before (Wrote t bytes end) s slot
    (λ n e. runs_alike topology before (Wrote t bytes end) s slot n (legal_before topology before (Wrote t bytes end) h) e (λ ran. ap (option_map (by_batch (batch_after topology before (view_of topology before) (Wrote t bytes end)) n)) ran)) (λ n e f. refl)
child_step topology before (Child t m k) s slot h old = either (same_stage s t && k == slot) refl
  where
    either : (b : Bool) → (same_stage s t && k == slot) ≡ b
        → (if b then Some (record { no = m; crashes = crashes before m.0 }) else child_row topology before s slot) ≡ child_of topology (Child t m k ∷ before) s (if b then Some m.0 else in_slot before s slot)
    either true here =
        sym (ap (λ b. child_if b m.0 (crashes before m.0)) (ap (runs_in s) (child_runs topology before t m k h) ∙ and_left (same_stage s t) _ here))
    either false other =
        old s slot
        ∙ child_alike topology before (Child t m k) s slot
        (λ n e. runs_alike topology before (Child t m k) s slot n (legal_before topology before (Child t m k) h) e (λ ran. ap (option_map (taken (m.0 ∷ []) t n)) ran)) (λ n e f. refl)
child_step topology before (ChildEnd t k reply) s slot h old = either (same_stage s t && k == slot) refl
  where
    legal : is_legal topology before ≡ true
    legal = legal_before topology before (ChildEnd t k reply) h

    not_ended : (same_stage s t && k == slot) ≡ false → (n : ℕ) → in_slot before s slot ≡ Some n → place topology before n ≡ Some (Running s) → is_number (in_slot before t k) n ≡ true → ⊥
    not_ended other n e ran is =
        let facts = child_end_facts topology before t k reply (legal_step topology before (ChildEnd t k reply) h) in
        let own = number_is (in_slot before t k) n is in
        let there = slot_runs topology before t k n legal facts.role facts.live facts.current own in
        let places : Some (Running s) ≡ Some (Running t) = sym ran ∙ there in
        let here : t ≡ s = cc in
        let slots = one_slot topology before s k slot n legal (subst (λ x. in_slot before x k ≡ Some n) here own) e ran in
        clash (same_stage s t && k == slot) (both (same_stage s t) _ (ap (same_stage s) here ∙ same_stage-self s) (eq-eqb k slot slots)) other

    either : (b : Bool) → (same_stage s t && k == slot) ≡ b → (if b then child_left (spec_of topology t) reply (child_row topology before s slot) else child_row topology before s slot) ≡ child_of topology (ChildEnd t k reply ∷ before) s (in_slot before s slot)
    either true here =
        let at : t ≡ s = sym (same_stage-true s t (and_left (same_stage s t) _ here)) in
        let on : k ≡ slot = eqb-true k slot (and_right (same_stage s t) _ here) in
        subst (λ x. child_left (spec_of topology t) reply (child_row topology before x slot) ≡ child_of topology (ChildEnd t k reply ∷ before) x (in_slot before x slot)) at
        (subst (λ x. child_left (spec_of topology t) reply (child_row topology before t x) ≡ child_of topology (ChildEnd t k reply ∷ before) t (in_slot before t x)) on
        (ended_here topology before t k reply h (old t k)))
    either false other =
        old s slot
        ∙ child_alike topology before (ChildEnd t k reply) s slot
        (λ n e. runs_alike topology before (ChildEnd t k reply) s slot n legal e (λ ran. ended_other topology before t s k n reply ran (not_ended other n e ran)))
        (λ n e ran. crashed_other (in_slot before t k) reply n (crashes before n) (not_ended other n e ran))
child_step topology before (Kill t why) s slot h old =
    killed_child topology before (Kill t why) (kill_set topology before (Kill t why)) (batch_after topology before (view_of topology before) (Kill t why)) s slot
    (legal_before topology before (Kill t why) h) (λ n. refl) (λ n. refl) (old s slot)
child_step topology before Halt s slot h old =
    killed_child topology before Halt (kill_set topology before Halt) (batch_after topology before (view_of topology before) Halt) s slot
    (legal_before topology before Halt h) (λ n. refl) (λ n. refl) (old s slot)
child_step topology before (Ask u n) s slot h old = old s slot ∙ child_alike topology before (Ask u n) s slot (λ n e. refl) (λ n e f. refl)
child_step topology before (Fetch t n) s slot h old = old s slot ∙ child_alike topology before (Fetch t n) s slot (λ n e. refl) (λ n e f. refl)
child_step topology before (Quiet t) s slot h old = old s slot ∙ child_alike topology before (Quiet t) s slot (λ n e. refl) (λ n e f. refl)
child_step topology before (SourceEnd t how) s slot h old = old s slot ∙ child_alike topology before (SourceEnd t how) s slot (λ n e. refl) (λ n e f. refl)
child_step topology before (Late t k i QuietAnswer) s slot h old = old s slot ∙ child_alike topology before (Late t k i QuietAnswer) s slot (λ n e. refl) (λ n e f. refl)
child_step topology before (Late t k i (Source how)) s slot h old = old s slot ∙ child_alike topology before (Late t k i (Source how)) s slot (λ n e. refl) (λ n e f. refl)
child_step topology before (Late t k i (WroteAnswer bytes end)) s slot h old = old s slot ∙ child_alike topology before (Late t k i (WroteAnswer bytes end)) s slot (λ n e. refl) (λ n e f. refl)
child_step topology before (Late t k i Nothing) s slot h old = old s slot ∙ child_alike topology before (Late t k i Nothing) s slot (λ n e. refl) (λ n e f. refl)
child_step topology before (Restart t) s slot h old = old s slot ∙ child_alike topology before (Restart t) s slot (λ n e. refl) (λ n e f. refl)
child_step topology before (Tick now) s slot h old = old s slot ∙ child_alike topology before (Tick now) s slot (λ n e. refl) (λ n e f. refl)
child_step topology before (Drain cause) s slot h old = old s slot ∙ child_alike topology before (Drain cause) s slot (λ n e. refl) (λ n e f. refl)
child_step topology before (Refuse line) s slot h old = old s slot ∙ child_alike topology before (Refuse line) s slot (λ n e. refl) (λ n e f. refl)

-- of each slot, in every legal journal
pub child_is : (topology : Topology) (before : History) (s : StageNo) (slot : ℕ) → is_legal topology before ≡ true → child_row topology before s slot ≡ child_in_slot topology before s slot
child_is topology [] s slot h = refl
child_is topology (step ∷ before) s slot h = child_step topology before step s slot h (λ t k. child_is topology before t k (legal_before topology before step h))
