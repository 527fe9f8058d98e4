-- The fields after the start of a child.
use Rattle.std.proofs.Common.{◌≡◌, ℕ, suc, ◌<◌, ◌≤◌, [], ◌∷◌, ◌++◌, length, map, Bool, true, false, refl, ap, sym, ◌∙◌, Some, arith, subst}
use Rattle.std.specs.Prelude.{slice_get, if◌then◌else◌, ◌==◌, ◌&&◌, ◌||◌, not, drop}
use Rattle.std.specs.declared.alloc.Global.{Global}
use Rattle.std.specs.declared.vec.Vec.{Vec}
use Rattle.std.specs.declared.collections.VecDeque.{VecDeque}
use Rattle.std.proofs.lemmas.Bool.Decides.{nat_tests}
use Rattle.std.proofs.lemmas.Bool.{eqb-true}
use Rattle.pipe_types.specs.declared.numbers.StageNo.{StageNo}
use Rattle.pipe_types.specs.declared.numbers.MsgNo.{MsgNo}
use Rattle.pipe_types.specs.declared.numbers.SubNo.{SubNo}
use Rattle.pipe_types.specs.declared.topology.Topology.{Topology}
use Rattle.pipe_types.specs.declared.topology.StageSpec.{StageSpec}
use Rattle.pipe_types.specs.declared.message.Place.{Place}
use Rattle.pipe_types.specs.declared.message.Place.TheVariants.{Running}
use Rattle.pipe_types.specs.declared.step.Step.TheVariants.{Child}
use Rattle.pipe_types.specs.Numbers.{same_stage, same_post, post}
use Rattle.pipe_types.specs.Stages.{spec_of}
use Rattle.pipe_types.specs.Sound.{IsSound}
use Rattle.pipe_laws.proofs.Tests.{and_left, and_right, both, same_stage-true, same_stage-self}
use Rattle.pipe_laws.proofs.Kept.{runs_here}
use Rattle.pipe_laws.proofs.Slots.{number_is}
use Rattle.pipe_laws.proofs.Allowed.{ChildFacts, child_facts}
use Rattle.pipe_model.specs.History.{History}
use Rattle.pipe_model.specs.Posts.{is_out, in_slot, crashes}
use Rattle.pipe_model.specs.Flow.{place, inbox, waiting}
use Rattle.pipe_model.specs.Standing.{gathered_in}
use Rattle.pipe_model.specs.Legal.{is_legal, allows, has_role, is_supervisor_role, runs_number}
use Rattle.queue_laws.specs.Queues.{without_number}
use Rattle.queue_laws.proofs.Sounds.{fits}
use Rattle.queue_laws.proofs.Laws.{waiting_law, inbox_law, gathered_law}
use Rattle.queue_laws.proofs.Members.{stands_in_queue}
use Rattle.stage_laws.proofs.Supervised.{child_elsewhere, child_runs, runs_started, runs_started_else, child_takes}
use Rattle.stage_laws.proofs.Numbering.{numbered_topology}
use Rattle.pipe_journal.specs.Recorded.{Recorded}
use Rattle.consumer_sup.specs.Children.{Slots}
use Rattle.core_tables.specs.declared.rows.Totals.{Totals}
use Rattle.core_tables.specs.declared.rows.PostRow.{PostRow}
use Rattle.core_tables.specs.Rows.{post_at}
use Rattle.core_tables.specs.Tables.{queue_at, list_at}
use Rattle.core_laws.specs.Columns.{running, post_row, part_of, open_batches, child_row, came, sub_first}
use Rattle.core_laws.specs.Slots.{child_if, child_of}
use Rattle.core_laws.proofs.Children.{child_is}
use Rattle.core_laws.proofs.Lawful.{legal_after}
use Rattle.core_laws.proofs.Past.{known_within, live_known, out_post}
use Rattle.core_state.specs.declared.state.Core.{Core}
use Rattle.core_state.specs.Stands.{Fields, Holds, child_at}
use Rattle.core_state.proofs.Homes.{post_same}
use Rattle.core_takes.specs.Takes.{out_of}
use Rattle.core_takes.proofs.Taking.{post_out}
use Rattle.core_state.proofs.Parts.{Part, CameAre, CameLen, ChildrenAre, ChildrenLen, ChildrenSet, ChunksAre, ChunksLen, InboxesAre, InboxesLen, OpensAre, PlacesAre, PlacesLen, PostsAre, PostsLen, TotalsAre, WaitingAre, Says, unchanged, fields_of}

-- what the passes of a child's start leave
pub record Started (core : Core) (topology : Topology) (before : History) (s : StageNo) (m : MsgNo) (slot : ℕ)
    (posts : Vec PostRow Global) (came_on : Vec SubNo Global) (inboxes : Vec (VecDeque (SubNo × ℕ) Global) Global) (chunks : Vec (Vec ℕ Global) Global) (children : Vec Slots Global) (places : Vec Place Global) : Type 0 where
  pub within : s.0 ≤ length topology.stages
  pub low : slot < 16
  pub waits : (t : StageNo) → waiting topology (Child s m slot ∷ before) t ≡ waiting topology before t
  pub gathers : (t : StageNo) → gathered_in topology (Child s m slot ∷ before) t ≡ gathered_in topology before t
  pub posts-is : (i : ℕ) → slice_get posts.items i ≡ (if post_at s.0 slot == i then out_of (slice_get core.stages.items s.0) else slice_get core.posts.items i)
  pub posts-len : length posts.items ≡ length core.posts.items
  pub came-is : (t : StageNo) (k : ℕ) → t.0 ≤ length topology.stages → k < 16 → slice_get came_on.items (post_at t.0 k) ≡ Some (came topology (Child s m slot ∷ before) t k)
  pub came-len : length came_on.items ≡ length core.came.items
  pub boxes : (t : StageNo) → queue_at inboxes.items t ≡ inbox topology (Child s m slot ∷ before) t
  pub boxes-len : length inboxes.items ≡ length core.inboxes.items
  pub runs : (t : StageNo) → list_at chunks.items t ≡ running topology (Child s m slot ∷ before) t
  pub runs-len : length chunks.items ≡ length core.chunks.items
  pub slots : (t : StageNo) (k : ℕ) → child_at children.items t k ≡ child_row topology (Child s m slot ∷ before) t k
  pub slots-len : length children.items ≡ length core.children.items
  pub slots-set : (t : StageNo) (spec : StageSpec) (held : Slots) → spec_of topology t ≡ Some spec → has_role topology t is_supervisor_role ≡ true
      → slice_get children.items t.0 ≡ Some held → (held.mode ≡ spec.child) × (length held.slots ≡ spec.max)
  pub placed : (i : ℕ) → slice_get places.items i ≡ place topology (Child s m slot ∷ before) (suc i)
  pub placed-len : length places.items ≡ length core.places.items

pub started_fields : (core : Core) (topology : Topology) (before : History) (s : StageNo) (m : MsgNo) (slot : ℕ) (j : Recorded)
    (posts : Vec PostRow Global) (came_on : Vec SubNo Global) (inboxes : Vec (VecDeque (SubNo × ℕ) Global) Global) (chunks : Vec (Vec ℕ Global) Global) (children : Vec Slots Global) (places : Vec Place Global)
    → Fields core topology before → Started core topology before s m slot posts came_on inboxes chunks children places
    → Fields (record core { journal = j; posts = posts; came = came_on; inboxes = inboxes; chunks = chunks; children = children; places = places; totals = record core.totals { quiet = 0 } }) topology (Child s m slot ∷ before)
started_fields core topology before s m slot j posts came_on inboxes chunks children places x new = fields_of says
  where
    out : (b : Bool) (t : StageNo) (k : ℕ) → same_post (post t k) (post s slot) ≡ b → slice_get core.posts.items (post_at t.0 k) ≡ Some (post_row before t k)
        → (if b then out_of (slice_get core.stages.items s.0) else slice_get core.posts.items (post_at t.0 k)) ≡ Some (post_row (Child s m slot ∷ before) t k)
    out b t k e at = post_out core topology before s t slot k b (x.stages s new.within) e at

    says : (it : Part) → Says it (record core { journal = j; posts = posts; came = came_on; inboxes = inboxes; chunks = chunks; children = children; places = places; totals = record core.totals { quiet = 0 } }) topology (Child s m slot ∷ before)
    says PostsLen = new.posts-len ∙ x.sized.posts
    says CameLen = new.came-len ∙ x.sized.came
    says InboxesLen = new.boxes-len ∙ x.sized.inboxes
    says ChunksLen = new.runs-len ∙ x.sized.chunks
    says ChildrenLen = new.slots-len ∙ x.sized.children
    says PlacesLen = new.placed-len ∙ x.sized.places
    says ChildrenSet = new.slots-set
    says PostsAre = λ t k within low. new.posts-is (post_at t.0 k)
        ∙ (ap (λ b. if b then out_of (slice_get core.stages.items s.0) else slice_get core.posts.items (post_at t.0 k)) (post_same s.0 t.0 slot k low new.low)
        ∙ out (same_post (post t k) (post s slot)) t k refl (x.posts t k within low))
    says CameAre = new.came-is
    says WaitingAre = λ t. x.waiting t ∙ ap (map (λ n. (part_of topology before (spec_of topology t) n, n))) (sym (new.waits t))
    says InboxesAre = new.boxes
    says ChunksAre = new.runs
    says OpensAre = λ t. x.opens t ∙ ap (open_batches before) (sym (new.gathers t))
    says ChildrenAre = new.slots
    says PlacesAre = new.placed
    says TotalsAre = ap (λ (y : Totals). record y { quiet = 0 }) x.totals
    says it = unchanged x it

-- ---- the inbox

-- ---- a message runs again

-- what is known where the slot's message runs again
pub record Again (topology : Topology) (before : History) (s : StageNo) (m : MsgNo) (slot : ℕ) : Type 0 where
  pub within : s.0 ≤ length topology.stages
  pub low : slot < 16
  pub waits : (t : StageNo) → waiting topology (Child s m slot ∷ before) t ≡ waiting topology before t
  pub gathers : (t : StageNo) → gathered_in topology (Child s m slot ∷ before) t ≡ gathered_in topology before t
  pub came : (t : StageNo) (k : ℕ) → came topology (Child s m slot ∷ before) t k ≡ came topology before t k
  pub boxes : (t : StageNo) → inbox topology (Child s m slot ∷ before) t ≡ inbox topology before t
  pub runs : (t : StageNo) → running topology (Child s m slot ∷ before) t ≡ running topology before t
  pub slots : (t : StageNo) (k : ℕ) → child_row topology (Child s m slot ∷ before) t k ≡ child_row topology before t k
  pub placed : (n : ℕ) → place topology (Child s m slot ∷ before) n ≡ place topology before n

pub again : (topology : Topology) (before : History) (s : StageNo) (m : MsgNo) (slot : ℕ) → IsSound topology → is_legal topology before ≡ true
    → allows topology before (Child s m slot) ≡ true → runs_number topology before s (in_slot before s slot) ≡ true → Again topology before s m slot
again topology before s m slot sound legal allowed re =
    record {
      within = (known_within topology s (numbered_topology topology sound) (live_known topology before s facts.live)).1;
      low = (out_post topology (Child s m slot ∷ before) s slot sound after puts).low;
      waits = λ t. waiting_law topology before (Child s m slot) t sound after;
      gathers = λ t. gathered_law topology before (Child s m slot) t after;
      came = λ t k. kept t k;
      boxes = λ t. inbox_law topology before (Child s m slot) t sound after ∙ box (same_stage t s) t refl;
      runs = λ t. run (same_stage t s) t refl;
      slots = λ t k. row (same_stage t s && slot == k) t k refl;
      placed = λ n. at (m.0 == n) n refl;
    }
  where
    facts : ChildFacts topology before s m.0 slot
    facts = child_facts topology before s m slot allowed

    after : is_legal topology (Child s m slot ∷ before) ≡ true
    after = legal_after topology before (Child s m slot) legal allowed

    own : in_slot before s slot ≡ Some m.0
    own = number_is (in_slot before s slot) m.0 (facts.again re)

    ran : place topology before m.0 ≡ Some (Running s)
    ran = runs_here s (place topology before m.0) (ap (runs_number topology before s) (sym own) ∙ re)

    puts : is_out (Child s m slot ∷ before) (post s slot) ≡ true
    puts = ap (λ b. b || (not false && is_out before (post s slot))) (both (same_stage s s) (slot == slot) (same_stage-self s) (grind (arith, nat_tests)))

    kept : (t : StageNo) (k : ℕ) → came topology (Child s m slot ∷ before) t k ≡ came topology before t k
    kept t k =
        ap (λ r. if same_stage t s && (slot == k && not r) then sub_first (inbox topology before s) else came topology before t k) re
        ∙ never (same_stage t s) (slot == k)
      where
        never : (p q : Bool) → (if p && (q && not true) then sub_first (inbox topology before s) else came topology before t k) ≡ came topology before t k
        never true true = refl
        never true false = refl
        never false q = refl

    box : (b : Bool) (t : StageNo) → same_stage t s ≡ b → (if b then without_number m.0 (inbox topology before t) else inbox topology before t) ≡ inbox topology before t
    box false t e = refl
    box true t e =
        subst (λ v. without_number m.0 (inbox topology before v) ≡ inbox topology before v) (sym (same_stage-true t s e))
        (child_takes topology before s m slot (fits topology sound) after ∙ ap (λ b. if b then inbox topology before s else drop 1 (inbox topology before s)) re)

    run : (b : Bool) (t : StageNo) → same_stage t s ≡ b → running topology (Child s m slot ∷ before) t ≡ running topology before t
    run false t e = runs_started_else topology before s t m slot e
    run true t e =
        subst (λ v. running topology (Child s m slot ∷ before) v ≡ running topology before v) (sym (same_stage-true t s e))
        (runs_started topology before s m slot (fits topology sound) after
        ∙ ap (λ b. if not b then running topology before s ++ m.0 ∷ [] else running topology before s) ((stands_in_queue topology before m.0 (fits topology sound) legal).runs s ran))

    row : (b : Bool) (t : StageNo) (k : ℕ) → (same_stage t s && slot == k) ≡ b
        → (if b then Some (record { no = m; crashes = crashes before m.0 }) else child_row topology before t k) ≡ child_row topology before t k
    row false t k e = refl
    row true t k e =
        let here : t ≡ s = same_stage-true t s (and_left (same_stage t s) _ e) in
        let on : k ≡ slot = sym (eqb-true slot k (and_right (same_stage t s) _ e)) in
        sym (ap (λ v. child_row topology before v k) here
        ∙ (ap (child_row topology before s) on
        ∙ (child_is topology before s slot legal
        ∙ (ap (child_of topology before s) own
        ∙ ap (λ b. child_if b m.0 (crashes before m.0)) (ap (runs_number topology before s) (sym own) ∙ re)))))

    at : (b : Bool) (n : ℕ) → (m.0 == n) ≡ b → place topology (Child s m slot ∷ before) n ≡ place topology before n
    at false n e = child_elsewhere topology before s m slot n e
    at true n e =
        let same : m.0 ≡ n = eqb-true m.0 n e in
        subst (λ i. place topology (Child s m slot ∷ before) i ≡ place topology before i) same (child_runs topology before s m slot after ∙ sym ran)

pub again_started : (core : Core) (s : StageNo) (m : MsgNo) (slot : ℕ) (posts : Vec PostRow Global) → Holds core
    → Again core.topology core.journal.steps s m slot
    → ((i : ℕ) → slice_get posts.items i ≡ (if post_at s.0 slot == i then out_of (slice_get core.stages.items s.0) else slice_get core.posts.items i)) → length posts.items ≡ length core.posts.items
    → Started core core.topology core.journal.steps s m slot posts core.came core.inboxes core.chunks core.children core.places
again_started core s m slot posts x known out len =
    record {
      within = known.within;
      low = known.low;
      waits = known.waits;
      gathers = known.gathers;
      posts-is = out;
      posts-len = len;
      came-is = λ t k below low. x.fields.came t k below low ∙ ap Some (sym (known.came t k));
      came-len = refl;
      boxes = λ t. x.fields.inboxes t ∙ sym (known.boxes t);
      boxes-len = refl;
      runs = λ t. x.fields.chunks t ∙ sym (known.runs t);
      runs-len = refl;
      slots = λ t k. x.fields.children t k ∙ sym (known.slots t k);
      slots-len = refl;
      slots-set = x.fields.set.children;
      placed = λ i. x.fields.places i ∙ sym (known.placed (suc i));
      placed-len = refl;
    }
