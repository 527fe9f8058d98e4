-- The fields after a child starts for the first message of the inbox.
use Rattle.std.proofs.Common.{◌≡◌, ◌≢◌, ℕ, zero, suc, ◌+◌, ◌*◌, ◌<◌, ◌≤◌, List, [], ◌∷◌, ◌++◌, length, map, take, Bool, true, false, refl, ap, sym, ◌∙◌, Some, None, Option, arith, inl, inr}
use Rattle.std.specs.Prelude.{slice_get, slice_index_or, option_map, if◌then◌else◌, ◌==◌, ◌&&◌, ◌||◌, ◌⊎◌, not, is_some, drop}
use Rattle.std.specs.declared.alloc.Global.{Global}
use Rattle.std.specs.declared.vec.Vec.{Vec}
use Rattle.std.specs.declared.collections.VecDeque.{VecDeque}
use Rattle.std.proofs.lemmas.Bool.Decides.{nat_tests}
use Rattle.std.proofs.lemmas.Bool.{eqb-true, eq-eqb, cases_lt}
use Rattle.pipe_types.specs.declared.numbers.StageNo.{StageNo}
use Rattle.pipe_types.specs.declared.numbers.MsgNo.{MsgNo}
use Rattle.pipe_types.specs.declared.numbers.SubNo.{SubNo}
use Rattle.pipe_types.specs.declared.topology.Topology.{Topology}
use Rattle.pipe_types.specs.declared.message.Place.{Place}
use Rattle.pipe_types.specs.declared.message.Place.TheVariants.{Inbox}
use Rattle.pipe_types.specs.declared.message.Reply.{Reply}
use Rattle.pipe_types.specs.declared.message.Reply.TheVariants.{Pass, Failed as FailedReply, Raised, Crashed}
use Rattle.pipe_types.specs.declared.step.Step.TheVariants.{Child, ChildEnd}
use Rattle.pipe_types.specs.Numbers.{same_stage, post}
use Rattle.pipe_types.specs.Sound.{IsSound}
use Rattle.pipe_laws.proofs.Tests.{both, same_stage-self, same_sub-self}
use Rattle.pipe_laws.proofs.Slots.{supervisor_writes, first_stands, slot_reached}
use Rattle.pipe_laws.proofs.Levels.{rank, level, level_grows}
use Rattle.pipe_laws.proofs.Places.{move_by}
use Rattle.pipe_laws.proofs.Accepted.{placed_accepted}
use Rattle.pipe_laws.proofs.Allowed.{legal_before, legal_step, ChildFacts, child_facts, child_end_facts}
use Rattle.pipe_model.specs.History.{History, accepted}
use Rattle.pipe_model.specs.Posts.{is_out, in_slot, crashes, crashed_as}
use Rattle.pipe_model.specs.Flow.{place, inbox, waiting, sent_to, runs_in, taken, units_on}
use Rattle.pipe_model.specs.Standing.{gathered_in}
use Rattle.pipe_model.specs.Legal.{is_legal, allows, has_role, is_supervisor_role, first_unit, runs_number}
use Rattle.queue_laws.specs.Queues.{without_number}
use Rattle.queue_laws.proofs.Sounds.{fits}
use Rattle.queue_laws.proofs.Laws.{waiting_law, inbox_law, gathered_law}
use Rattle.stage_laws.proofs.Plain.{supervised_rank}
use Rattle.stage_laws.proofs.Supervised.{runs_started, runs_started_else, child_takes, among_fails}
use Rattle.consumer_sup.specs.Children.{Slots}
use Rattle.core_tables.specs.declared.rows.PostRow.{PostRow}
use Rattle.core_tables.specs.Rows.{post_at}
use Rattle.core_tables.specs.Chunks.{without_first}
use Rattle.core_tables.specs.Tables.{queue_at, list_at}
use Rattle.core_tables.proofs.Tables.{same_or_other}
use Rattle.core_laws.specs.Columns.{running, child_row, came, sub_first}
use Rattle.core_laws.specs.Slots.{child_if, child_of}
use Rattle.core_laws.proofs.Children.{child_is}
use Rattle.core_laws.proofs.Lawful.{legal_after}
use Rattle.core_laws.proofs.Past.{out_post}
use Rattle.core_state.specs.declared.state.Core.{Core}
use Rattle.core_state.specs.Stands.{Holds, child_at}
use Rattle.core_takes.specs.Takes.{out_of}
use Rattle.core_children.proofs.Starting.{Started}

-- ---- a message in the supervisor's inbox has no crash

-- a message whose child crashed has begun to run, or is past that
crashed_reached : (topology : Topology) (before : History) (n : ℕ) → is_legal topology before ≡ true → 1 ≤ crashes before n → 5 ≤ level topology (place topology before n)
crashed_reached topology [] n h some = absurd (omega arith)
crashed_reached topology (ChildEnd t k reply ∷ before) n h some =
    let was = by (in_slot before t k) reply refl some (crashed_reached topology before n (legal_before topology before (ChildEnd t k reply) h)) in
    omega (arith, was, level_grows topology before (ChildEnd t k reply) _ _ (move_by topology before (ChildEnd t k reply) n))
  where
    by : (o : Option ℕ) (r : Reply) → in_slot before t k ≡ o → 1 ≤ crashed_as o r n (crashes before n) → (1 ≤ crashes before n → 5 ≤ level topology (place topology before n)) → 5 ≤ level topology (place topology before n)
    by None r own some rest = rest some
    by (Some m) (Pass x) own some rest = rest some
    by (Some m) (FailedReply why) own some rest = rest some
    by (Some m) (Raised why) own some rest = rest some
    by (Some m) Crashed own some rest = either (m == n) refl some
      where
        either : (b : Bool) → (m == n) ≡ b → 1 ≤ (if b then crashes before n + 1 else crashes before n) → 5 ≤ level topology (place topology before n)
        either true same more =
            let reached = slot_reached topology before t k n (legal_before topology before (ChildEnd t k reply) h) (own ∙ ap Some (eqb-true m n same)) in
            let one = supervised_rank topology t (child_end_facts topology before t k reply (legal_step topology before (ChildEnd t k reply) h)).role in
            omega (arith, reached, one)
        either false other more = rest more
crashed_reached topology (step ∷ before) n h some =
    omega (arith, crashed_reached topology before n (legal_before topology before step h) some, level_grows topology before step _ _ (move_by topology before step n))

no_crash : (topology : Topology) (before : History) (s : StageNo) (n : ℕ) (u : SubNo) → is_legal topology before ≡ true → has_role topology s is_supervisor_role ≡ true → u.consumer ≡ s → place topology before n ≡ Some (Inbox u) → crashes before n ≡ 0
no_crash topology before s n u legal role to stood = by (cases_lt 0 (crashes before n))
  where
    by : (0 < crashes before n) ⊎ (crashes before n ≤ 0) → crashes before n ≡ 0
    by (inr none) = omega arith
    by (inl some) =
        let reached = crashed_reached topology before n legal (omega arith) in
        let at : level topology (place topology before n) ≡ 4 * rank topology s = ap (level topology) stood ∙ ap (λ v. 4 * rank topology v) to in
        let one = supervised_rank topology s role in
        absurd (omega (arith, reached, at, one))

-- ---- a free slot

-- in a slot without a child no message runs
pub idle_slot : (topology : Topology) (before : History) (s : StageNo) (slot : ℕ) → is_legal topology before ≡ true → child_row topology before s slot ≡ None → runs_number topology before s (in_slot before s slot) ≡ false
idle_slot topology before s slot legal none = by (in_slot before s slot) (sym (child_is topology before s slot legal) ∙ none)
  where
    no_child : (b : Bool) (n k : ℕ) → child_if b n k ≡ None → b ≡ false
    no_child false n k e = refl
    no_child true n k e = cc

    by : (o : Option ℕ) → child_of topology before s o ≡ None → runs_number topology before s o ≡ false
    by None e = refl
    by (Some n) e = no_child (runs_in s (place topology before n)) n (crashes before n) e

-- ---- what a start changes

-- what is known where a child starts for the first message of the inbox
pub record Fresh (topology : Topology) (before : History) (s : StageNo) (m : MsgNo) (slot : ℕ) : Type 0 where
  pub low : slot < 16
  pub idle : runs_number topology before s (in_slot before s slot) ≡ false
  pub waits : (t : StageNo) → waiting topology (Child s m slot ∷ before) t ≡ waiting topology before t
  pub gathers : (t : StageNo) → gathered_in topology (Child s m slot ∷ before) t ≡ gathered_in topology before t
  pub first : m.0 ≡ first_unit (inbox topology before s)
  pub some : 1 ≤ m.0
  pub few : m.0 ≤ accepted before
  pub box_here : inbox topology (Child s m slot ∷ before) s ≡ drop 1 (inbox topology before s)
  pub box_else : (t : StageNo) → (s.0 == t.0) ≡ false → inbox topology (Child s m slot ∷ before) t ≡ inbox topology before t
  pub run_here : running topology (Child s m slot ∷ before) s ≡ running topology before s ++ m.0 ∷ []
  pub run_else : (t : StageNo) → (s.0 == t.0) ≡ false → running topology (Child s m slot ∷ before) t ≡ running topology before t
  pub none : crashes before m.0 ≡ 0

flip : (a b : ℕ) → (a == b) ≡ false → (b == a) ≡ false
flip a b e = grind (arith, nat_tests)

pub fresh : (topology : Topology) (before : History) (s : StageNo) (m : MsgNo) (slot : ℕ) → IsSound topology → is_legal topology before ≡ true
    → allows topology before (Child s m slot) ≡ true → runs_number topology before s (in_slot before s slot) ≡ false → Fresh topology before s m slot
fresh topology before s m slot sound legal allowed idle =
    record {
      low = (out_post topology (Child s m slot ∷ before) s slot sound after puts).low;
      idle = idle;
      waits = λ t. waiting_law topology before (Child s m slot) t sound after;
      gathers = λ t. gathered_law topology before (Child s m slot) t after;
      first = new.1;
      some = new.0;
      few = (placed_accepted topology before m.0 (ap is_some stood.2)).1;
      box_here = inbox_law topology before (Child s m slot) s sound after
          ∙ (ap (λ b. if b then without_number m.0 (inbox topology before s) else inbox topology before s) (same_stage-self s)
          ∙ (child_takes topology before s m slot (fits topology sound) after ∙ ap (λ b. if b then inbox topology before s else drop 1 (inbox topology before s)) idle));
      box_else = λ t e. inbox_law topology before (Child s m slot) t sound after ∙ ap (λ b. if b then without_number m.0 (inbox topology before t) else inbox topology before t) (flip s.0 t.0 e);
      run_here = runs_started topology before s m slot (fits topology sound) after
          ∙ ap (λ b. if not b then running topology before s ++ m.0 ∷ [] else running topology before s) (among_fails (λ n. runs_in s (place topology before n)) (map (λ d. d.1) (sent_to topology before s)) m.0 (ap (runs_in s) stood.2));
      run_else = λ t e. runs_started_else topology before s t m slot (flip s.0 t.0 e);
      none = no_crash topology before s m.0 stood.0 legal facts.role stood.1 stood.2;
    }
  where
    facts : ChildFacts topology before s m.0 slot
    facts = child_facts topology before s m slot allowed

    after : is_legal topology (Child s m slot ∷ before) ≡ true
    after = legal_after topology before (Child s m slot) legal allowed

    new : (1 ≤ m.0) × (m.0 ≡ first_unit (inbox topology before s))
    new = facts.new idle

    stood : (u : SubNo) × (u.consumer ≡ s) × (place topology before m.0 ≡ Some (Inbox u))
    stood = first_stands topology before s is_supervisor_role m.0 supervisor_writes facts.role new.0 new.1

    puts : is_out (Child s m slot ∷ before) (post s slot) ≡ true
    puts = ap (λ b. b || (not false && is_out before (post s slot))) (both (same_stage s s) (slot == slot) (same_stage-self s) (eq-eqb slot slot refl))

-- ---- the passes

first_gone : (units : List (SubNo × ℕ)) (m : ℕ) → 1 ≤ m → m ≡ first_unit units → without_first (sub_first units) 1 units ≡ drop 1 units
first_gone [] m some first = absurd (let x : m ≡ 0 = first in omega arith)
first_gone (d ∷ units) m some first = ap (λ b. if b then without_first d.0 0 units else d ∷ without_first d.0 1 units) (same_sub-self d.0)

first_taken : (units : List (SubNo × ℕ)) (m : ℕ) → 1 ≤ m → m ≡ first_unit units → take 1 (units_on (sub_first units) units) ≡ m ∷ []
first_taken [] m some first = absurd (let x : m ≡ 0 = first in omega arith)
first_taken (d ∷ units) m some first = rw (same_sub-self d.0) (ap (λ n. n ∷ []) (sym first))

and_true : (q : Bool) → (q && true) ≡ q
and_true true = refl
and_true false = refl

-- which row of the slots it is
post_same : (s t : StageNo) (slot k : ℕ) → k < 16 → slot < 16 → (post_at s.0 slot == post_at t.0 k) ≡ (same_stage t s && slot == k)
post_same s t slot k low high = grind (arith, nat_tests)

pub fresh_started : (core : Core) (s : StageNo) (u : SubNo) (m : MsgNo) (slot : ℕ)
    (posts : Vec PostRow Global) (came_on : Vec SubNo Global) (inboxes : Vec (VecDeque (SubNo × ℕ) Global) Global) (chunks : Vec (Vec ℕ Global) Global) (children : Vec Slots Global) (places : Vec Place Global)
    → Holds core → Fresh core.topology core.journal.steps s m slot → s.0 ≤ length core.topology.stages → u ≡ sub_first (inbox core.topology core.journal.steps s)
    → ((i : ℕ) → slice_get posts.items i ≡ (if post_at s.0 slot == i then out_of (slice_get core.stages.items s.0) else slice_get core.posts.items i)) → length posts.items ≡ length core.posts.items
    → ((i : ℕ) → slice_get came_on.items i ≡ (if post_at s.0 slot == i then Some u else slice_get core.came.items i)) → length came_on.items ≡ length core.came.items
    → ((t : StageNo) → queue_at inboxes.items t ≡ (if s.0 == t.0 then without_first u 1 (queue_at core.inboxes.items t) else queue_at core.inboxes.items t)) → length inboxes.items ≡ length core.inboxes.items
    → ((t : StageNo) → list_at chunks.items t ≡ (if s.0 == t.0 then list_at core.chunks.items t ++ take 1 (units_on u (queue_at core.inboxes.items t)) else list_at core.chunks.items t)) → length chunks.items ≡ length core.chunks.items
    → ((t : StageNo) (k : ℕ) → child_at children.items t k ≡ (if t.0 == s.0 && slot == k then Some (record { no = m; crashes = 0 }) else child_at core.children.items t k)) → length children.items ≡ length core.children.items
    → ((t : StageNo) (new : Slots) → slice_get children.items t.0 ≡ Some new → (old : Slots) × (slice_get core.children.items t.0 ≡ Some old) × (new.mode ≡ old.mode) × (length new.slots ≡ length old.slots))
    → ((i : ℕ) → slice_get places.items i ≡ option_map (taken (m.0 ∷ []) s (suc i)) (slice_get core.places.items i)) → length places.items ≡ length core.places.items
    → Started core core.topology core.journal.steps s m slot posts came_on inboxes chunks children places
fresh_started core s u m slot posts came_on inboxes chunks children places x known within sub out posts-len noted noted-len queue queues list lists kids kids-len kept placed all =
    record {
      within = within;
      low = known.low;
      waits = known.waits;
      gathers = known.gathers;
      posts-is = out;
      posts-len = posts-len;
      came-is = λ t k below low. noted (post_at t.0 k) ∙ on (post_at s.0 slot == post_at t.0 k) (same_stage t s && slot == k) t k (post_same s t slot k low known.low) refl (x.fields.came t k below low);
      came-len = noted-len;
      boxes = λ t. queue t ∙ box t (same_or_other s.0 t.0);
      boxes-len = queues;
      runs = λ t. list t ∙ run t (same_or_other s.0 t.0);
      runs-len = lists;
      slots = λ t k. kids t k ∙ kid (t.0 == s.0 && slot == k) t k refl;
      slots-len = kids-len;
      slots-set = λ t spec held e role at.
          let was = kept t held at in
          let is = x.fields.set.children t spec was.0 e role was.1 in
          (was.2 ∙ is.0, was.3 ∙ is.1);
      placed = λ i. placed i ∙ ap (option_map (taken (m.0 ∷ []) s (suc i))) (x.fields.places i);
      placed-len = all;
    }
  where
    noticed : (t : StageNo) (k : ℕ) → (same_stage t s && (slot == k && not (runs_number core.topology core.journal.steps s (in_slot core.journal.steps s slot)))) ≡ (same_stage t s && slot == k)
    noticed t k = ap (λ r. same_stage t s && (slot == k && not r)) known.idle ∙ ap (λ q. same_stage t s && q) (and_true (slot == k))

    on : (a b : Bool) (t : StageNo) (k : ℕ) → a ≡ b → (same_stage t s && slot == k) ≡ b → slice_get core.came.items (post_at t.0 k) ≡ Some (came core.topology core.journal.steps t k)
        → (if a then Some u else slice_get core.came.items (post_at t.0 k)) ≡ Some (came core.topology (Child s m slot ∷ core.journal.steps) t k)
    on true true t k h e at = ap Some sub ∙ ap (λ b. Some (if b then sub_first (inbox core.topology core.journal.steps s) else came core.topology core.journal.steps t k)) (sym (noticed t k ∙ e))
    on false false t k h e at = at ∙ ap (λ b. Some (if b then sub_first (inbox core.topology core.journal.steps s) else came core.topology core.journal.steps t k)) (sym (noticed t k ∙ e))
    on true false t k h e at = cc
    on false true t k h e at = cc

    here : (t : StageNo) → s.0 ≡ t.0 → s ≡ t
    here t e = ap (λ n. record { 0 = n }) e

    box : (t : StageNo) → (((s.0 == t.0) ≡ true) × (s.0 ≡ t.0)) ⊎ (((s.0 == t.0) ≡ false) × (s.0 ≢ t.0))
        → (if s.0 == t.0 then without_first u 1 (queue_at core.inboxes.items t) else queue_at core.inboxes.items t) ≡ inbox core.topology (Child s m slot ∷ core.journal.steps) t
    box t (inl same) =
        ap (λ b. if b then without_first u 1 (queue_at core.inboxes.items t) else queue_at core.inboxes.items t) same.0
        ∙ (ap (without_first u 1) (x.fields.inboxes t) ∙ (ap (λ v. without_first u 1 (inbox core.topology core.journal.steps v)) (sym (here t same.1))
        ∙ (ap (λ v. without_first v 1 (inbox core.topology core.journal.steps s)) sub
        ∙ (first_gone (inbox core.topology core.journal.steps s) m.0 known.some known.first
        ∙ (sym known.box_here ∙ ap (inbox core.topology (Child s m slot ∷ core.journal.steps)) (here t same.1))))))
    box t (inr other) = ap (λ b. if b then without_first u 1 (queue_at core.inboxes.items t) else queue_at core.inboxes.items t) other.0 ∙ (x.fields.inboxes t ∙ sym (known.box_else t other.0))

    run : (t : StageNo) → (((s.0 == t.0) ≡ true) × (s.0 ≡ t.0)) ⊎ (((s.0 == t.0) ≡ false) × (s.0 ≢ t.0))
        → (if s.0 == t.0 then list_at core.chunks.items t ++ take 1 (units_on u (queue_at core.inboxes.items t)) else list_at core.chunks.items t) ≡ running core.topology (Child s m slot ∷ core.journal.steps) t
    run t (inl same) =
        ap (λ b. if b then list_at core.chunks.items t ++ take 1 (units_on u (queue_at core.inboxes.items t)) else list_at core.chunks.items t) same.0
        ∙ (ap (λ ns. ns ++ take 1 (units_on u (queue_at core.inboxes.items t))) (x.fields.chunks t)
        ∙ (ap (λ us. running core.topology core.journal.steps t ++ take 1 (units_on u us)) (x.fields.inboxes t)
        ∙ (ap (λ v. running core.topology core.journal.steps v ++ take 1 (units_on u (inbox core.topology core.journal.steps v))) (sym (here t same.1))
        ∙ (ap (λ v. running core.topology core.journal.steps s ++ take 1 (units_on v (inbox core.topology core.journal.steps s))) sub
        ∙ (ap (λ ns. running core.topology core.journal.steps s ++ ns) (first_taken (inbox core.topology core.journal.steps s) m.0 known.some known.first)
        ∙ (sym known.run_here ∙ ap (running core.topology (Child s m slot ∷ core.journal.steps)) (here t same.1)))))))
    run t (inr other) = ap (λ b. if b then list_at core.chunks.items t ++ take 1 (units_on u (queue_at core.inboxes.items t)) else list_at core.chunks.items t) other.0 ∙ (x.fields.chunks t ∙ sym (known.run_else t other.0))

    kid : (b : Bool) (t : StageNo) (k : ℕ) → (t.0 == s.0 && slot == k) ≡ b
        → (if b then Some (record { no = m; crashes = 0 }) else child_at core.children.items t k) ≡ child_row core.topology (Child s m slot ∷ core.journal.steps) t k
    kid true t k e =
        ap (λ c. Some (record { no = m; crashes = c })) (sym known.none)
        ∙ ap (λ b. if b then Some (record { no = m; crashes = crashes core.journal.steps m.0 }) else child_row core.topology core.journal.steps t k) (sym e)
    kid false t k e = x.fields.children t k ∙ ap (λ b. if b then Some (record { no = m; crashes = crashes core.journal.steps m.0 }) else child_row core.topology core.journal.steps t k) (sym e)

-- what is known of the child that a core starts in a free slot
pub fresh_child : (core : Core) (s : StageNo) (m : MsgNo) (slot : ℕ) → Holds core → child_at core.children.items s slot ≡ None
    → allows core.topology core.journal.steps (Child s m slot) ≡ true → Fresh core.topology core.journal.steps s m slot
fresh_child core s m slot x none allowed =
    fresh core.topology core.journal.steps s m slot x.sound x.legal allowed (idle_slot core.topology core.journal.steps s slot x.legal (sym (x.fields.children s slot) ∙ none))

-- one number within the table
pub one_within : (n most : ℕ) → 1 ≤ n → n ≤ most → (k d : ℕ) → k < 1 → (1 ≤ slice_index_or (n ∷ []) k d) × (slice_index_or (n ∷ []) k d ≤ most)
one_within n most low high zero d below = (low, high)
one_within n most low high (suc k) d below = absurd (omega arith)
