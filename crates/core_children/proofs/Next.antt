-- The child that starts next.
use Rattle.std.proofs.Common.{◌≡◌, ℕ, zero, suc, ◌+◌, ◌<◌, ◌≤◌, List, [], ◌∷◌, length, Bool, true, false, refl, ap, sym, ◌∙◌, Some, None, Option, arith, subst}
use Rattle.std.specs.Prelude.{slice_get, option_map, if◌then◌else◌, ◌==◌, ◌&&◌, ◌||◌, not, is_some, nat_le, nat_lt}
use Rattle.std.specs.List.{list_any}
use Rattle.std.proofs.lemmas.Bool.Decides.{nat_tests}
use Rattle.std.proofs.lemmas.Bool.{eq-eqb, ltb-true, false_from_ne_true}
use Rattle.std.proofs.lemmas.List.Sums.{sum_by-cons, count_by-le-length}
use Rattle.std.proofs.Common.{cond}
use Rattle.pipe_types.specs.declared.numbers.StageNo.{StageNo}
use Rattle.pipe_types.specs.declared.numbers.MsgNo.{MsgNo}
use Rattle.pipe_types.specs.declared.topology.Topology.{Topology}
use Rattle.pipe_types.specs.declared.topology.StageSpec.{StageSpec}
use Rattle.pipe_types.specs.declared.message.Place.TheVariants.{Running}
use Rattle.pipe_types.specs.declared.step.Step.{Step}
use Rattle.pipe_types.specs.declared.step.Step.TheVariants.{Fetch, Take, Child, Restart}
use Rattle.pipe_types.specs.Numbers.{same_stage, post, message_no}
use Rattle.pipe_types.specs.Stages.{spec_of}
use Rattle.pipe_types.specs.Sound.{IsSound}
use Rattle.pipe_laws.proofs.Tests.{clash, and_left, and_right, both, same_stage-true, same_stage-self}
use Rattle.pipe_laws.proofs.Busy.{same_incarnation, two_roles}
use Rattle.pipe_laws.proofs.Slots.{slot_runs, number_is, first_stands, supervisor_writes, supervisor_produces, supervisor_takes}
use Rattle.pipe_laws.proofs.Accepted.{placed_accepted, accepted_content}
use Rattle.pipe_laws.proofs.Kept.{runs_here}
use Rattle.pipe_laws.proofs.Allowed.{legal_before, legal_step, unowed, child_facts, take_facts, fetch_role}
use Rattle.pipe_model.specs.History.{History, incarnation, incarnation_after}
use Rattle.pipe_model.specs.Posts.{is_out, out_from, has_post_out, in_slot, crashes, puts_out, answers, slots}
use Rattle.pipe_model.specs.Lives.{is_live, restarts}
use Rattle.pipe_model.specs.Content.{content}
use Rattle.pipe_model.specs.Flow.{place, inbox, runs_in, is_number}
use Rattle.pipe_model.specs.Legal.{is_legal, owed, passes, is_late, happened, is_halt, allows, may_start, is_current, needs_restart, no_post_out, has_role, is_supervisor_role, is_producer_role, takes_role, first_unit, runs_number, max_of}
use Rattle.pipe_model.specs.Moves.{next_in_slot}
use Rattle.queue_laws.proofs.Late.{puts_no_restart}
use Rattle.stage_laws.proofs.FewSlots.{slot_case, none_any}
use Rattle.stage_laws.proofs.Numbering.{numbered_topology}
use Rattle.consumer_sup.specs.Children.{Slots, child_in, alive}
use Rattle.consumer_sup.specs.declared.Child.{Child as ChildRow}
use Rattle.core_tables.specs.Rows.{post_at}
use Rattle.core_laws.specs.Columns.{child_row}
use Rattle.core_laws.specs.Slots.{child_if, child_of}
use Rattle.core_laws.proofs.Children.{child_is}
use Rattle.core_laws.proofs.Past.{known_within, live_known, out_post, supervisor_max}
use Rattle.core_laws.proofs.Lawful.{legal_after}
use Rattle.core_laws.proofs.Came.{flip}
use Rattle.core_state.specs.declared.state.Core.{Core}
use Rattle.core_state.specs.Readings.{out_in}
use Rattle.core_state.specs.Stands.{Holds, Stands, child_at, child_of as child_from}
use Rattle.core_state.proofs.Reading.{some_at}
use Rattle.core_children.specs.Slots.{slots_in, slots_at}
use Rattle.core_children.specs.Starts.{may_start_child, again_in}
use Rattle.core_children.proofs.Fresh.{idle_slot}
use Rattle.core_tables.specs.declared.rows.PostRow.{PostRow}

-- ---- a post that is out

later : (p q : Bool) → p ≡ false → (p || q) ≡ true → q ≡ true
later false q e h = h
later true q e h = cc

-- a supervisor's post that is out is that of a slot in which a message was started
pub out_slot : (topology : Topology) (before : History) (s : StageNo) (k : ℕ) → is_legal topology before ≡ true → has_role topology s is_supervisor_role ≡ true → is_out before (post s k) ≡ true → (n : ℕ) × (in_slot before s k ≡ Some n)
out_slot topology [] s k h role out = cc
out_slot topology (Child t m q ∷ before) s k h role out =
    either (same_stage s t && q == k) refl (out_slot topology before s k (legal_before topology before (Child t m q) h) role)
  where
    either : (b : Bool) → (same_stage s t && q == k) ≡ b → (is_out before (post s k) ≡ true → (n : ℕ) × (in_slot before s k ≡ Some n)) → (n : ℕ) × ((if b then Some m.0 else in_slot before s k) ≡ Some n)
    either true e rest = (m.0, refl)
    either false e rest = rest (and_right (not false) _ (later (same_stage s t && k == q) _ (ap (λ b. same_stage s t && b) (flip k q) ∙ e) out))
out_slot topology (Fetch t n ∷ before) s k h role out =
    either (same_stage s t && k == 0) refl (out_slot topology before s k (legal_before topology before (Fetch t n) h) role)
  where
    either : (b : Bool) → (same_stage s t && k == 0) ≡ b → (is_out before (post s k) ≡ true → (n : ℕ) × (in_slot before s k ≡ Some n)) → (n : ℕ) × (in_slot before s k ≡ Some n)
    either true e rest =
        absurd (two_roles topology s is_supervisor_role is_producer_role supervisor_produces role
        (subst (λ x. has_role topology x is_producer_role ≡ true) (sym (same_stage-true s t (and_left (same_stage s t) _ e))) (fetch_role topology before t n (legal_step topology before (Fetch t n) h))))
    either false e rest = rest (and_right (not false) _ (later (same_stage s t && k == 0) _ e out))
out_slot topology (Take t u n ∷ before) s k h role out =
    either (same_stage s t && k == 0) refl (out_slot topology before s k (legal_before topology before (Take t u n) h) role)
  where
    either : (b : Bool) → (same_stage s t && k == 0) ≡ b → (is_out before (post s k) ≡ true → (n : ℕ) × (in_slot before s k ≡ Some n)) → (n : ℕ) × (in_slot before s k ≡ Some n)
    either true e rest =
        absurd (two_roles topology s is_supervisor_role takes_role supervisor_takes role
        (subst (λ x. has_role topology x takes_role ≡ true) (sym (same_stage-true s t (and_left (same_stage s t) _ e))) (take_facts topology before t u n (legal_step topology before (Take t u n) h)).role))
    either false e rest = rest (and_right (not false) _ (later (same_stage s t && k == 0) _ e out))
out_slot topology (step ∷ before) s k h role out =
    out_slot topology before s k (legal_before topology before step h) role (and_right (not (answers step (post s k))) _ out)

restart_free : (topology : Topology) (before : History) (step : Step) (s : StageNo) (k : ℕ) → k < 16 → allows topology before step ≡ true → restarts step s ≡ true → is_out before (post s k) ≡ true → ⊥
restart_free topology before (Restart t) s k low h same out =
    let all = unowed topology before (Restart t) (λ x. refl) (λ x. refl) h in
    let free : no_post_out topology before t ≡ true = and_left (no_post_out topology before t) _ (and_right (needs_restart topology before t) _ all) in
    let is : s ≡ t = same_stage-true s t same in
    by (has_post_out before s) refl (ap (λ x. no_post_out topology before x) is ∙ free)
  where
    by : (b : Bool) → has_post_out before s ≡ b → not b ≡ true → ⊥
    by true e f = let wrong : false ≡ true = f in cc
    by false e f = clash (is_out before (post s k)) out (slot_case (λ j. is_out before (post s j) ≡ false) (none_any (λ slot. is_out before (post s slot)) slots e) k low)
restart_free topology before _ s k low h same out = let x : false ≡ true = same in cc

-- and it is out from the stage's present incarnation
out_present : (topology : Topology) (before : History) (s : StageNo) (k : ℕ) → k < 16 → is_legal topology before ≡ true → is_out before (post s k) ≡ true → out_from before (post s k) ≡ incarnation before s
out_present topology [] s k low h out = cc
out_present topology (step ∷ before) s k low h out =
    either (puts_out step (post s k)) refl out (out_present topology before s k low (legal_before topology before step h)) (restarts step s) refl
  where
    either : (b : Bool) → puts_out step (post s k) ≡ b → (b || (not (answers step (post s k)) && is_out before (post s k))) ≡ true → (is_out before (post s k) ≡ true → out_from before (post s k) ≡ incarnation before s) → (r : Bool) → restarts step s ≡ r → (if b then incarnation before s else out_from before (post s k)) ≡ incarnation_after step s (incarnation before s)
    either true e out rest r er = sym (same_incarnation step s (incarnation before s) (puts_no_restart step s k e))
    either false e out rest false er = rest (and_right (not (answers step (post s k))) _ out) ∙ sym (same_incarnation step s (incarnation before s) er)
    either false e out rest true er = absurd (restart_free topology before step s k low (legal_step topology before step h) er (and_right (not (answers step (post s k))) _ out))

-- the post of a slot without a child is home, while the supervisor is live
post_free : (topology : Topology) (before : History) (s : StageNo) (k : ℕ) → k < 16 → is_legal topology before ≡ true → has_role topology s is_supervisor_role ≡ true → is_live topology before s ≡ true
    → runs_number topology before s (in_slot before s k) ≡ false → is_out before (post s k) ≡ false
post_free topology before s k low legal role live idle =
    false_from_ne_true (is_out before (post s k))
    (λ out.
    let own = out_slot topology before s k legal role out in
    let current : is_current before s k ≡ true = both (is_out before (post s k)) _ out (eq-eqb (out_from before (post s k)) (incarnation before s) (out_present topology before s k low legal out)) in
    let ran = slot_runs topology before s k own.0 legal role live current own.1 in
    clash (runs_number topology before s (in_slot before s k)) (ap (runs_number topology before s) own.1 ∙ (ap (runs_in s) ran ∙ same_stage-self s)) idle)

-- ---- which child may start

-- a child may start where another may, in a slot whose post is home
child_allowed : (topology : Topology) (before : History) (s : StageNo) (other m : MsgNo) (from slot : ℕ) → owed topology before ≡ None → allows topology before (Child s other from) ≡ true → is_out before (post s slot) ≡ false
    → (if runs_number topology before s (in_slot before s slot) then is_number (in_slot before s slot) m.0 else nat_le 1 m.0 && (nat_lt slot (max_of (spec_of topology s)) && m.0 == first_unit (inbox topology before s))) ≡ true
    → allows topology before (Child s m slot) ≡ true
child_allowed topology before s other m from slot unowed allowed home rest =
    let facts = child_facts topology before s other from allowed in
    both (not (happened is_halt before) || is_late (Child s m slot)) _ (and_left (not (happened is_halt before) || is_late (Child s other from)) _ allowed)
    (ap (λ o. passes o (Child s m slot) (may_start topology before s m.0 slot)) unowed
    ∙ both (is_live topology before s) _ facts.live (both (has_role topology s is_supervisor_role) _ facts.role (both (not (is_out before (post s slot))) _ (ap not home) rest)))

-- one of the slots that passes the test
any_slot : (test : ℕ → Bool) (xs : List ℕ) → list_any test xs ≡ true → (k : ℕ) × (test k ≡ true)
any_slot test [] h = cc
any_slot test (x ∷ xs) h = either (test x) refl h (any_slot test xs)
  where
    either : (b : Bool) → test x ≡ b → (b || list_any test xs) ≡ true → (list_any test xs ≡ true → (k : ℕ) × (test k ≡ true)) → (k : ℕ) × (test k ≡ true)
    either true e h rest = (x, e)
    either false e h rest = rest h

-- what is known where some child may start
pub record Startable (topology : Topology) (before : History) (s : StageNo) : Type 0 where
  pub slot : ℕ
  pub allowed : allows topology before (Child s (message_no (next_in_slot topology before s slot)) slot) ≡ true
  pub low : slot < 16
  pub within : s.0 ≤ length topology.stages

pub startable : (topology : Topology) (before : History) (s : StageNo) → IsSound topology → is_legal topology before ≡ true → may_start_child topology before s ≡ true → Startable topology before s
startable topology before s sound legal h =
    let at = any_slot (λ slot. allows topology before (Child s (message_no (next_in_slot topology before s slot)) slot)) slots h in
    let facts = child_facts topology before s (message_no (next_in_slot topology before s at.0)) at.0 at.1 in
    let puts : is_out (Child s (message_no (next_in_slot topology before s at.0)) at.0 ∷ before) (post s at.0) ≡ true =
    ap (λ b. b || (not false && is_out before (post s at.0))) (both (same_stage s s) (at.0 == at.0) (same_stage-self s) (eq-eqb at.0 at.0 refl)) in
    let low = (out_post topology (Child s (message_no (next_in_slot topology before s at.0)) at.0 ∷ before) s at.0 sound (legal_after topology before (Child s (message_no (next_in_slot topology before s at.0)) at.0) legal at.1) puts).low in
    record { slot = at.0; allowed = at.1; low = low; within = (known_within topology s (numbered_topology topology sound) (live_known topology before s facts.live)).1 }

-- ---- a child that runs again

-- what is known of the slot's own message
pub record Own (topology : Topology) (before : History) (s : StageNo) (msg : MsgNo) (slot : ℕ) : Type 0 where
  pub runs : runs_number topology before s (in_slot before s slot) ≡ true
  pub is : is_number (in_slot before s slot) msg.0 ≡ true

own_child : (topology : Topology) (before : History) (s : StageNo) (msg : MsgNo) (slot : ℕ) → is_legal topology before ≡ true → option_map (λ (c : ChildRow). c.no) (child_row topology before s slot) ≡ Some msg → Own topology before s msg slot
own_child topology before s msg slot legal e = by (in_slot before s slot) refl (ap (option_map (λ (c : ChildRow). c.no)) (sym (child_is topology before s slot legal)) ∙ e)
  where
    row : (b : Bool) (n k : ℕ) → option_map (λ (c : ChildRow). c.no) (child_if b n k) ≡ Some msg → (b ≡ true) × (n ≡ msg.0)
    row true n k e = let same : message_no n ≡ msg = cc in (refl, ap (λ (m : MsgNo). m.0) same)
    row false n k e = cc

    by : (o : Option ℕ) → in_slot before s slot ≡ o → option_map (λ (c : ChildRow). c.no) (child_of topology before s o) ≡ Some msg → Own topology before s msg slot
    by None own e = cc
    by (Some n) own e =
        let r = row (runs_in s (place topology before n)) n (crashes before n) e in
        record { runs = ap (runs_number topology before s) own ∙ r.0; is = ap (λ o. is_number o msg.0) own ∙ eq-eqb n msg.0 r.1 }

either_home : {A : Type 0} (b : Bool) (o : Option A) (x : A) → (if b then None else o) ≡ Some x → (b ≡ false) × (o ≡ Some x)
either_home true o x e = cc
either_home false o x e = (refl, e)

-- what is known of the child that the code found to run again
pub record Found (core : Core) (s : StageNo) (msg : MsgNo) (slot : ℕ) : Type 0 where
  pub own : Own core.topology core.journal.steps s msg slot
  pub allowed : allows core.topology core.journal.steps (Child s msg slot) ≡ true

pub found : (core : Core) (s : StageNo) (msg : MsgNo) (slot : ℕ) → Stands core → Startable core.topology core.journal.steps s → slot < 16
    → again_in core.children.items core.posts.items s slot ≡ Some msg → Found core s msg slot
found core s msg slot x start low e =
    let f = x.holds.fields in
    let parts = either_home (out_in (slice_get core.posts.items (post_at s.0 slot))) (option_map (λ (c : ChildRow). c.no) (child_at core.children.items s slot)) msg e in
    let own = own_child core.topology core.journal.steps s msg slot x.holds.legal (ap (option_map (λ (c : ChildRow). c.no)) (sym (f.children s slot)) ∙ parts.1) in
    let home : is_out core.journal.steps (post s slot) ≡ false = sym (ap out_in (f.posts s slot start.within low)) ∙ parts.0 in
    record {
      own = own;
      allowed = child_allowed core.topology core.journal.steps s (message_no (next_in_slot core.topology core.journal.steps s start.slot)) msg start.slot slot x.unowed start.allowed home
          (ap (λ b. if b then is_number (in_slot core.journal.steps s slot) msg.0 else nat_le 1 msg.0 && (nat_lt slot (max_of (spec_of core.topology s)) && msg.0 == first_unit (inbox core.topology core.journal.steps s))) own.runs ∙ own.is);
    }

-- the slot's own message was accepted
pub own_accepted : (topology : Topology) (before : History) (s : StageNo) (msg : MsgNo) (slot : ℕ) → allows topology before (Child s msg slot) ≡ true
    → runs_number topology before s (in_slot before s slot) ≡ true → (1 ≤ msg.0) × (is_some (content before msg.0) ≡ true)
own_accepted topology before s msg slot allowed runs =
    let own = number_is (in_slot before s slot) msg.0 ((child_facts topology before s msg slot allowed).again runs) in
    let ran : place topology before msg.0 ≡ Some (Running s) = runs_here s (place topology before msg.0) (ap (runs_number topology before s) (sym own) ∙ runs) in
    let w = placed_accepted topology before msg.0 (ap is_some ran) in
    (w.0, accepted_content before msg.0 w.0 w.1)

-- ---- a child for the first message of the inbox

alive-cons : (slot : Option ChildRow) (slots : List (Option ChildRow)) → alive (slot ∷ slots) ≡ cond (is_some slot) 1 0 + alive slots
alive-cons slot slots = sum_by-cons (λ (x : Option ChildRow). cond (is_some x) 1 0) slot slots

alive_few : (kids : List (Option ChildRow)) (k : ℕ) → k < length kids → child_in kids k ≡ None → alive kids < length kids
alive_few [] k low none = absurd (omega arith)
alive_few (None ∷ kids) zero low none = omega (arith, alive-cons None kids, count_by-le-length is_some kids)
alive_few (Some child ∷ kids) zero low none = cc
alive_few (None ∷ kids) (suc k) low none = omega (arith, alive-cons None kids, count_by-le-length is_some kids)
alive_few (Some child ∷ kids) (suc k) low none = let rest = alive_few kids k (omega arith) none in omega (arith, alive-cons (Some child) kids, rest)

child_seen : (table : List Slots) (s : StageNo) (k : ℕ) → child_at table s k ≡ child_in (slots_at table s) k
child_seen table s k = by (slice_get table s.0)
  where
    by : (o : Option Slots) → child_from o k ≡ child_in (slots_in o) k
    by None = refl
    by (Some held) = refl

-- a supervisor has as many slots as its greatest demand
pub slots_len : (core : Core) (s : StageNo) → Holds core → has_role core.topology s is_supervisor_role ≡ true → s.0 ≤ length core.topology.stages → length (slots_at core.children.items s) ≡ max_of (spec_of core.topology s)
slots_len core s x role within = by (spec_of core.topology s) refl
  where
    by : (o : Option StageSpec) → spec_of core.topology s ≡ o → length (slots_at core.children.items s) ≡ max_of o
    by None e = let none : has_role core.topology s is_supervisor_role ≡ false = rw e refl in clash (has_role core.topology s is_supervisor_role) role none
    by (Some spec) e =
        let held = some_at core.children.items s.0 (omega (arith, within, x.fields.sized.children)) in
        ap (λ o. length (slots_in o)) held.1 ∙ (x.fields.set.children s spec held.0 e role held.1).1

-- what a new child's start says of the inbox and the slot
new_row : (topology : Topology) (before : History) (s : StageNo) (m : MsgNo) (slot : ℕ) → allows topology before (Child s m slot) ≡ true → runs_number topology before s (in_slot before s slot) ≡ false
    → (nat_le 1 m.0 && (nat_lt slot (max_of (spec_of topology s)) && m.0 == first_unit (inbox topology before s))) ≡ true
new_row topology before s m slot allowed idle =
    let all = unowed topology before (Child s m slot) (λ t. refl) (λ t. refl) allowed in
    let one = and_right (is_live topology before s) _ all in
    let three = and_right (not (is_out before (post s slot))) _ (and_right (has_role topology s is_supervisor_role) _ one) in
    ap (λ b. if b then is_number (in_slot before s slot) m.0 else nat_le 1 m.0 && (nat_lt slot (max_of (spec_of topology s)) && m.0 == first_unit (inbox topology before s))) (sym idle) ∙ three

-- what is known where no child runs again, and one may start
pub record First (core : Core) (s : StageNo) : Type 0 where
  pub free : alive (slots_at core.children.items s) < length (slots_at core.children.items s)
  pub least : 1 ≤ first_unit (inbox core.topology core.journal.steps s)
  pub accepted : is_some (content core.journal.steps (first_unit (inbox core.topology core.journal.steps s))) ≡ true
  pub legal : (msg : MsgNo) (k : ℕ) → msg.0 ≡ first_unit (inbox core.topology core.journal.steps s) → k < length (slots_at core.children.items s) → child_at core.children.items s k ≡ None
      → allows core.topology core.journal.steps (Child s msg k) ≡ true

-- a number in range, as a test
number_least : (n : ℕ) → 1 ≤ n → nat_le 1 n ≡ true
number_least n h = grind (arith, nat_tests)

number_below : (k n : ℕ) → k < n → nat_lt k n ≡ true
number_below k n h = grind (arith, nat_tests)

-- what is known of a start that is not of the slot's own message
pub record New (topology : Topology) (before : History) (s : StageNo) (slot : ℕ) : Type 0 where
  pub least : 1 ≤ first_unit (inbox topology before s)
  pub below : slot < max_of (spec_of topology s)
  pub accepted : is_some (content before (first_unit (inbox topology before s))) ≡ true

pub new_start : (topology : Topology) (before : History) (s : StageNo) (m : MsgNo) (slot : ℕ) → allows topology before (Child s m slot) ≡ true → runs_number topology before s (in_slot before s slot) ≡ false → New topology before s slot
new_start topology before s m slot allowed idle =
    let facts = child_facts topology before s m slot allowed in
    let raw = new_row topology before s m slot allowed idle in
    let new = facts.new idle in
    let below = ltb-true slot (max_of (spec_of topology s)) (and_left (nat_lt slot (max_of (spec_of topology s))) _ (and_right (nat_le 1 m.0) _ raw)) in
    let stood = first_stands topology before s is_supervisor_role m.0 supervisor_writes facts.role new.0 new.1 in
    let w = placed_accepted topology before m.0 (ap is_some stood.2) in
    record {
      least = subst (λ n. 1 ≤ n) new.1 new.0;
      below = below;
      accepted = subst (λ n. is_some (content before n) ≡ true) new.1 (accepted_content before m.0 w.0 w.1);
    }

-- where the code found no child that runs again, the start is not of one
not_again : (core : Core) (s : StageNo) (m : MsgNo) (slot : ℕ) → Holds core → s.0 ≤ length core.topology.stages → slot < 16 → allows core.topology core.journal.steps (Child s m slot) ≡ true
    → again_in core.children.items core.posts.items s slot ≡ None → runs_number core.topology core.journal.steps s (in_slot core.journal.steps s slot) ≡ false
not_again core s m slot x within low allowed none =
    false_from_ne_true (runs_number core.topology core.journal.steps s (in_slot core.journal.steps s slot))
    (λ runs.
    let facts = child_facts core.topology core.journal.steps s m slot allowed in
    let own = number_is (in_slot core.journal.steps s slot) m.0 (facts.again runs) in
    let row : child_at core.children.items s slot ≡ Some (record { no = m; crashes = crashes core.journal.steps m.0 }) =
    x.fields.children s slot ∙ (child_is core.topology core.journal.steps s slot x.legal ∙ (ap (child_of core.topology core.journal.steps s) own ∙ ap (λ b. child_if b m.0 (crashes core.journal.steps m.0)) (ap (runs_number core.topology core.journal.steps s) (sym own) ∙ runs))) in
    let home : out_in (slice_get core.posts.items (post_at s.0 slot)) ≡ false = ap out_in (x.fields.posts s slot within low) ∙ facts.free in
    let there : again_in core.children.items core.posts.items s slot ≡ Some m =
    ap (λ b. if b then None else option_map (λ (c : ChildRow). c.no) (child_at core.children.items s slot)) home ∙ ap (option_map (λ (c : ChildRow). c.no)) row in
    let wrong : None ≡ Some m = sym none ∙ there in
    absurd cc)

pub first_child : (core : Core) (s : StageNo) → Stands core → Startable core.topology core.journal.steps s
    → ((k : ℕ) → k < 16 → again_in core.children.items core.posts.items s k ≡ None) → First core s
first_child core s x start none =
    let m = message_no (next_in_slot core.topology core.journal.steps s start.slot) in
    let facts = child_facts core.topology core.journal.steps s m start.slot start.allowed in
    let idle = not_again core s m start.slot x.holds start.within start.low start.allowed (none start.slot start.low) in
    let new = new_start core.topology core.journal.steps s m start.slot start.allowed idle in
    let len = slots_len core s x.holds facts.role start.within in
    let most = supervisor_max core.topology s x.holds.sound facts.role in
    let empty : child_at core.children.items s start.slot ≡ None = x.holds.fields.children s start.slot ∙ (child_is core.topology core.journal.steps s start.slot x.holds.legal ∙ none_runs core.topology core.journal.steps s (in_slot core.journal.steps s start.slot) idle) in
    record {
      free = alive_few (slots_at core.children.items s) start.slot (omega (arith, len, new.below)) (sym (child_seen core.children.items s start.slot) ∙ empty);
      least = new.least;
      accepted = new.accepted;
      legal = λ msg k is low free.
          let idle_k = idle_slot core.topology core.journal.steps s k x.holds.legal (sym (x.holds.fields.children s k) ∙ free) in
          let within : k < max_of (spec_of core.topology s) = omega (arith, len, low) in
          let some : 1 ≤ msg.0 = omega (arith, is, new.least) in
          child_allowed core.topology core.journal.steps s m msg start.slot k x.unowed start.allowed
          (post_free core.topology core.journal.steps s k (omega (arith, within, most)) x.holds.legal facts.role facts.live idle_k)
          (ap (λ b. if b then is_number (in_slot core.journal.steps s k) msg.0 else nat_le 1 msg.0 && (nat_lt k (max_of (spec_of core.topology s)) && msg.0 == first_unit (inbox core.topology core.journal.steps s))) idle_k
          ∙ both (nat_le 1 msg.0) _ (number_least msg.0 some)
          (both (nat_lt k (max_of (spec_of core.topology s))) _ (number_below k (max_of (spec_of core.topology s)) within) (eq-eqb msg.0 (first_unit (inbox core.topology core.journal.steps s)) is)));
    }
  where
    none_runs : (topology : Topology) (before : History) (s : StageNo) (o : Option ℕ) → runs_number topology before s o ≡ false → child_of topology before s o ≡ None
    none_runs topology before s None e = refl
    none_runs topology before s (Some n) e = ap (λ b. child_if b n (crashes before n)) e

-- the same of the tables that the code read

rows_read : (core : Core) (s : StageNo) (kids : List Slots) (posts : List PostRow) (k : ℕ) → kids ≡ core.children.items → posts ≡ core.posts.items → again_in core.children.items core.posts.items s k ≡ again_in kids posts s k
rows_read core s kids posts k same_kids same_posts = sym (ap (λ ks. again_in ks posts s k) same_kids ∙ ap (λ ps. again_in core.children.items ps s k) same_posts)

pub found_read : (core : Core) (s : StageNo) (kids : List Slots) (posts : List PostRow) (msg : MsgNo) (slot : ℕ) → Stands core → may_start_child core.topology core.journal.steps s ≡ true
    → kids ≡ core.children.items → posts ≡ core.posts.items → slot < 16 → again_in kids posts s slot ≡ Some msg → Found core s msg slot
found_read core s kids posts msg slot x legal same_kids same_posts low e =
    found core s msg slot x (startable core.topology core.journal.steps s x.holds.sound x.holds.legal legal) low (rows_read core s kids posts slot same_kids same_posts ∙ e)

pub first_read : (core : Core) (s : StageNo) (kids : List Slots) (posts : List PostRow) → Stands core → may_start_child core.topology core.journal.steps s ≡ true
    → kids ≡ core.children.items → posts ≡ core.posts.items → ((k : ℕ) → k < 16 → again_in kids posts s k ≡ None) → First core s
first_read core s kids posts x legal same_kids same_posts none =
    first_child core s x (startable core.topology core.journal.steps s x.holds.sound x.holds.legal legal) (λ k low. rows_read core s kids posts k same_kids same_posts ∙ none k low)
