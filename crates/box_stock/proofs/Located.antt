-- The posts that need a callback, and the boxes that are for them.
use Rattle.std.proofs.Common.{◌≡◌, ℕ, zero, suc, ◌+◌, ◌-◌, ◌<◌, ◌≤◌, Bool, true, false, cond, List, [], ◌∷◌, ◌++◌, length, take, map, get_or, refl, ap, sym, ◌∙◌, subst, arith, Option, Some, None}
use Rattle.std.specs.Prelude.{slice_get, option_map, if◌then◌else◌}
use Rattle.std.specs.List.{flat_map, sum_by}
use Rattle.std.proofs.lemmas.Bool.{lt-ltb, eq-eqb}
use Rattle.std.proofs.lemmas.Option.{slice_get_within, slice_get_past, slice_get_read, slice_get-map}
use Rattle.std.proofs.lemmas.List.{length-append, take_all, take-map}
use Rattle.std.proofs.lemmas.List.Sums.{sum_by-cons}
use Rattle.edge_names.proofs.Openings.{take_next, flat_map_next}
use Rattle.pipe_types.specs.declared.numbers.StageNo.{StageNo}
use Rattle.pipe_types.specs.declared.numbers.Post.{Post}
use Rattle.pipe_types.specs.declared.topology.Kind.{Kind}
use Rattle.pipe_types.specs.declared.topology.Kind.TheVariants.{Steps, Lines, Own}
use Rattle.pipe_types.specs.declared.topology.Role.{Role}
use Rattle.pipe_types.specs.declared.topology.Role.TheVariants.{Producer, Processor, Supervisor, Batcher, BatchProcessor}
use Rattle.pipe_types.specs.declared.topology.StageSpec.{StageSpec}
use Rattle.pipe_types.specs.declared.topology.Topology.{Topology}
use Rattle.pipe_types.specs.Numbers.{post}
use Rattle.pipe_types.specs.Stages.{spec_of}
use Rattle.pipe_types.specs.Sound.{IsSound}
use Rattle.stage_job.specs.Boxes.{same_kind, boxes_of_kind}
use Rattle.stage_laws.specs.Numbered.{IsNumberedTopology}
use Rattle.stage_laws.proofs.Numbering.{numbered_topology}
use Rattle.body_laws.specs.Keeps.{has_slot, has_post_in, has_post}
use Rattle.body_laws.proofs.Posts.{own_places, few_slots}
use Rattle.topology_needs.specs.Needs.{posts_in, posts_of, of_kind, need_of, boxes_in, shortage_of}
use Rattle.topology_needs.proofs.Rows.{enough}
use Rattle.box_stock.specs.Homes.{slots_from, posts_for, posts_with, post_by, post_for, Suffices}
use Rattle.box_stock.specs.Lends.{AreApart}
use Rattle.box_stock.proofs.Lists.{find_in, at_index}
use Rattle.box_stock.proofs.Ranks.{same_kind-true, same_kind-self, only_place, nth}

-- ---- slots

pub slot_get : (s : StageNo) (a n k : ℕ) → k < n → slice_get (slots_from s a n) k ≡ Some (post s (a + k))
slot_get s a zero k below = absurd (omega (arith, below))
slot_get s a (suc n) zero below = let none : a + 0 ≡ a = omega arith in ap (λ m. Some (post s m)) (sym none)
slot_get s a (suc n) (suc k) below =
    let next : suc a + k ≡ a + suc k = omega arith in
    slot_get s (suc a) n k (omega (arith, below)) ∙ ap (λ m. Some (post s m)) next

pub slot_len : (s : StageNo) (a n : ℕ) → length (slots_from s a n) ≡ n
slot_len s a zero = refl
slot_len s a (suc n) = ap suc (slot_len s (suc a) n)

-- ---- posts of a kind

record IsSlotOf (t : Bool) (s : StageNo) (n k : ℕ) (p : Post) : Type 0 where
  pub this : t ≡ true
  pub below : k < n
  pub is : p ≡ post s k

slot_of : (t : Bool) (s : StageNo) (n k : ℕ) (p : Post) → slice_get (if t then slots_from s 0 n else []) k ≡ Some p → IsSlotOf t s n k p
slot_of false s n k p e = cc
slot_of true s n k p e =
    let below : k < n = omega (arith, slice_get_within (slots_from s 0 n) k p e, slot_len s 0 n) in
    let none : 0 + k ≡ k = omega arith in
    let same : Some p ≡ Some (post s k) = sym e ∙ (slot_get s 0 n k below ∙ ap (λ m. Some (post s m)) none) in
    record { this = refl; below = below; is = cc }

-- the post of a rank among those that need a callback of the kind
pub record IsPostWith (kind : Kind) (topology : Topology) (r : ℕ) (p : Post) : Type 0 where
  pub at : ℕ
  pub spec : StageSpec
  pub here : slice_get topology.stages at ≡ Some spec
  pub same : same_kind kind spec.kind ≡ true
  pub below : p.slot < posts_of spec
  pub is : p ≡ post spec.no p.slot
  pub rank : r ≡ length (flat_map (posts_for kind) (take at topology.stages)) + p.slot

pub located : (kind : Kind) (topology : Topology) (r : ℕ) (p : Post) → slice_get (posts_with kind topology) r ≡ Some p → IsPostWith kind topology r p
located kind topology r p e =
    let found = find_in (posts_for kind) topology.stages r p e in
    let slot = slot_of (same_kind kind found.from.kind) found.from.no (posts_of found.from) found.place p found.inside in
    let number : p.slot ≡ found.place = ap (λ (q : Post). q.slot) slot.is in
    record {
      at = found.at;
      spec = found.from;
      here = found.here;
      same = slot.this;
      below = omega (arith, number, slot.below);
      is = slot.is ∙ ap (post found.from.no) (sym number);
      rank = omega (arith, found.rank, number);
    }

-- a post with a callback has its rank
pub ranked : (kind : Kind) (topology : Topology) (at slot : ℕ) (spec : StageSpec) → slice_get topology.stages at ≡ Some spec → same_kind kind spec.kind ≡ true → slot < posts_of spec
    → slice_get (posts_with kind topology) (length (flat_map (posts_for kind) (take at topology.stages)) + slot) ≡ Some (post spec.no slot)
ranked kind topology at slot spec here same below =
    let own : posts_for kind spec ≡ slots_from spec.no 0 (posts_of spec) = ap (λ t. if t then slots_from spec.no 0 (posts_of spec) else []) same in
    let within : slot < length (posts_for kind spec) = omega (arith, ap length own, slot_len spec.no 0 (posts_of spec), below) in
    let none : 0 + slot ≡ slot = omega arith in
    at_index (posts_for kind) topology.stages at spec slot here within
    ∙ (ap (λ l. slice_get l slot) own ∙ (slot_get spec.no 0 (posts_of spec) slot below ∙ ap (λ m. Some (post spec.no m)) none))

abbrev posts_if : Bool → ℕ → ℕ
posts_if t n = if t then n else 0

if_some : (t : Bool) (n slot : ℕ) → slot < posts_if t n → (t ≡ true) × (slot < n)
if_some true n slot below = (refl, below)
if_some false n slot below = absurd (omega (arith, below))

if_len : (t : Bool) (s : StageNo) (n : ℕ) → length (if t then slots_from s 0 n else []) ≡ posts_if t n
if_len true s n = slot_len s 0 n
if_len false s n = refl

-- the post stands in this stage
pub home_here : (kind : Kind) (topology : Topology) (i left before posts : ℕ) (spec : StageSpec) → slice_get topology.stages i ≡ Some spec
    → posts ≡ (if same_kind kind spec.kind then posts_of spec else 0) → left < posts → before ≡ length (flat_map (posts_for kind) (take i topology.stages)) + left
    → Some (post spec.no left) ≡ slice_get (posts_with kind topology) before
home_here kind topology i left before posts spec here is below rank =
    let parts = if_some (same_kind kind spec.kind) (posts_of spec) left (omega (arith, is, below)) in
    sym (ap (slice_get (posts_with kind topology)) rank ∙ ranked kind topology i left spec here parts.0 parts.1)

-- it stands behind this stage
pub home_on : (kind : Kind) (topology : Topology) (i left before posts : ℕ) (spec : StageSpec) → slice_get topology.stages i ≡ Some spec
    → posts ≡ (if same_kind kind spec.kind then posts_of spec else 0) → posts ≤ left → before ≡ length (flat_map (posts_for kind) (take i topology.stages)) + left
    → before ≡ length (flat_map (posts_for kind) (take (i + 1) topology.stages)) + (left - posts)
home_on kind topology i left before posts spec here is up rank =
    let number : length (posts_for kind spec) ≡ posts = if_len (same_kind kind spec.kind) spec.no (posts_of spec) ∙ sym is in
    let next : flat_map (posts_for kind) (take (i + 1) topology.stages) ≡ flat_map (posts_for kind) (take i topology.stages) ++ posts_for kind spec
    = ap (flat_map (posts_for kind)) (take_next topology.stages i spec here) ∙ flat_map_next (posts_for kind) (take i topology.stages) spec in
    let more : length (flat_map (posts_for kind) (take (i + 1) topology.stages)) ≡ length (flat_map (posts_for kind) (take i topology.stages)) + length (posts_for kind spec)
    = ap length next ∙ length-append (flat_map (posts_for kind) (take i topology.stages)) (posts_for kind spec) in
    omega (arith, number, more, up, rank)

-- there is no such post
pub no_home : (kind : Kind) (topology : Topology) (i left before : ℕ) → length topology.stages ≤ i → before ≡ length (flat_map (posts_for kind) (take i topology.stages)) + left
    → None ≡ slice_get (posts_with kind topology) before
no_home kind topology i left before past rank =
    let all : length (flat_map (posts_for kind) (take i topology.stages)) ≡ length (posts_with kind topology) = ap (λ l. length (flat_map (posts_for kind) l)) (take_all i topology.stages past) in
    sym (slice_get_past (posts_with kind topology) before (omega (arith, all, rank)))

-- ---- how many there are

needed_in : (kind : Kind) (stages : List StageSpec) → length (flat_map (posts_for kind) stages) ≡ sum_by posts_of (of_kind kind stages)
needed_in kind [] = refl
needed_in kind (spec ∷ rest) = length-append (posts_for kind spec) (flat_map (posts_for kind) rest) ∙ by_kind (same_kind kind spec.kind) (needed_in kind rest)
  where
    by_kind : (t : Bool) → length (flat_map (posts_for kind) rest) ≡ sum_by posts_of (of_kind kind rest)
        → length (if t then slots_from spec.no 0 (posts_of spec) else []) + length (flat_map (posts_for kind) rest) ≡ sum_by posts_of (cond t (spec ∷ of_kind kind rest) (of_kind kind rest))
    by_kind true more = omega (arith, slot_len spec.no 0 (posts_of spec), sum_by-cons posts_of spec (of_kind kind rest), more)
    by_kind false more = omega (arith, more)

-- as many posts need a callback of the kind as the need says
pub needed : (kind : Kind) (topology : Topology) → length (posts_with kind topology) ≡ need_of topology kind
needed kind topology = needed_in kind topology.stages

-- where none is short there is a box for each post that needs one
pub suffices : (topology : Topology) (kinds : List Kind) → shortage_of topology (boxes_in kinds) ≡ None → Suffices topology kinds
suffices topology kinds none Steps = enough topology (boxes_in kinds) Steps none
suffices topology kinds none Lines = enough topology (boxes_in kinds) Lines none
suffices topology kinds none Own = enough topology (boxes_in kinds) Own none

-- ---- posts with a callback

has_slot_by : (r : Role) (max slot : ℕ) → slot < posts_in r max → has_slot r max slot ≡ true
has_slot_by Producer max slot below = absurd (omega (arith, below))
has_slot_by Processor max slot below = eq-eqb slot 0 (omega (arith, below))
has_slot_by Supervisor max slot below = lt-ltb slot max below
has_slot_by Batcher max slot below = absurd (omega (arith, below))
has_slot_by BatchProcessor max slot below = eq-eqb slot 0 (omega (arith, below))

-- the post of a stage
pub record IsPostOf (topology : Topology) (p : Post) (spec : StageSpec) : Type 0 where
  pub found : spec_of topology p.stage ≡ Some spec
  pub below : p.slot < posts_of spec
  pub there : has_post topology p ≡ true
  pub few : p.slot < 16

pub post_of : (kind : Kind) (topology : Topology) (r : ℕ) (p : Post) → IsSound topology → (w : IsPostWith kind topology r p) → IsPostOf topology p w.spec
post_of kind topology r p sound w =
    let numbered = numbered_topology topology sound in
    let found : spec_of topology p.stage ≡ Some w.spec = subst (λ (q : Post). spec_of topology q.stage ≡ Some w.spec) (sym w.is) (numbered.found w.at w.spec w.here) in
    let there : has_post topology p ≡ true = ap (λ o. has_post_in o p.slot) found ∙ has_slot_by w.spec.role w.spec.max p.slot w.below in
    record { found = found; below = w.below; there = there; few = few_slots topology p sound there }

-- ---- boxes

pub record IsHome (topology : Topology) (kinds : List Kind) (k : ℕ) (p : Post) : Type 0 where
  pub kind : Kind
  pub here : slice_get kinds k ≡ Some kind
  pub post : IsPostWith kind topology (boxes_of_kind kind (take k kinds)) p

pub home_found : (topology : Topology) (kinds : List Kind) (k : ℕ) (p : Post) → post_for topology kinds k ≡ Some p → IsHome topology kinds k p
home_found topology kinds k p e = by_kind (slice_get kinds k) refl e
  where
    by_kind : (o : Option Kind) → slice_get kinds k ≡ o → post_by topology o (take k kinds) ≡ Some p → IsHome topology kinds k p
    by_kind None is e = cc
    by_kind (Some kind) is e = record { kind = kind; here = is; post = located kind topology (boxes_of_kind kind (take k kinds)) p e }

same_stage_at : (topology : Topology) (a b : ℕ) (s t : StageSpec) → IsNumberedTopology topology → slice_get topology.stages a ≡ Some s → slice_get topology.stages b ≡ Some t → s.no ≡ t.no → a ≡ b
same_stage_at topology a b s t numbered one other same =
    omega (arith, numbered.numbers a s one, numbered.numbers b t other, ap (λ (n : StageNo). n.0) same)

same_ranks : (topology : Topology) (kinds : List Kind) (j k : ℕ) (p : Post) → IsSound topology → (a b : Kind) → slice_get kinds j ≡ Some a → slice_get kinds k ≡ Some b
    → IsPostWith a topology (boxes_of_kind a (take j kinds)) p → IsPostWith b topology (boxes_of_kind b (take k kinds)) p → j ≡ k
same_ranks topology kinds j k p sound a b one other v w =
    let numbered = numbered_topology topology sound in
    let number : v.spec.no ≡ w.spec.no = ap (λ (q : Post). q.stage) (sym v.is ∙ w.is) in
    let at : v.at ≡ w.at = same_stage_at topology v.at w.at v.spec w.spec numbered v.here w.here number in
    let specs : Some v.spec ≡ Some w.spec = sym v.here ∙ (ap (slice_get topology.stages) at ∙ w.here) in
    let spec : v.spec ≡ w.spec = cc in
    let kind : a ≡ b = same_kind-true a v.spec.kind v.same ∙ (ap (λ (s : StageSpec). s.kind) spec ∙ sym (same_kind-true b w.spec.kind w.same)) in
    let ranks : boxes_of_kind a (take j kinds) ≡ boxes_of_kind b (take k kinds)
    = v.rank ∙ (ap (λ x. length (flat_map (posts_for x) (take v.at topology.stages)) + p.slot) kind ∙ (ap (λ x. length (flat_map (posts_for b) (take x topology.stages)) + p.slot) at ∙ sym w.rank)) in
    only_place a kinds j k one (subst (λ x. slice_get kinds k ≡ Some x) (sym kind) other) (subst (λ x. boxes_of_kind a (take j kinds) ≡ boxes_of_kind x (take k kinds)) (sym kind) ranks)

-- boxes are for different posts
pub apart : (topology : Topology) (kinds : List Kind) → IsSound topology → AreApart (post_for topology kinds)
apart topology kinds sound j k p q one other same =
    let v = home_found topology kinds j p one in
    let w = home_found topology kinds k q other in
    let low = (post_of v.kind topology (boxes_of_kind v.kind (take j kinds)) p sound v.post).few in
    let least = (post_of w.kind topology (boxes_of_kind w.kind (take k kinds)) q sound w.post).few in
    let is : p ≡ q = own_places p q low least same in
    same_ranks topology kinds j k q sound v.kind w.kind v.here w.here (subst (IsPostWith v.kind topology (boxes_of_kind v.kind (take j kinds))) is v.post) w.post

-- a post with a callback has a box
pub record HasBox (topology : Topology) (kinds : List Kind) (p : Post) (kind : Kind) : Type 0 where
  pub at : ℕ
  pub here : slice_get kinds at ≡ Some kind
  pub home : post_for topology kinds at ≡ Some p

pub served : (topology : Topology) (kinds : List Kind) (at slot : ℕ) (spec : StageSpec) → Suffices topology kinds → slice_get topology.stages at ≡ Some spec → slot < posts_of spec
    → HasBox topology kinds (post spec.no slot) spec.kind
served topology kinds at slot spec suffice here below =
    let rank = length (flat_map (posts_for spec.kind) (take at topology.stages)) + slot in
    let is = ranked spec.kind topology at slot spec here (same_kind-self spec.kind) below in
    let within : rank < boxes_of_kind spec.kind kinds = omega (arith, slice_get_within (posts_with spec.kind topology) rank (post spec.no slot) is, needed spec.kind topology, suffice spec.kind) in
    let box = nth spec.kind kinds rank within in
    record {
      at = box.at;
      here = box.here;
      home = ap (λ o. post_by topology o (take box.at kinds)) box.here ∙ (ap (slice_get (posts_with spec.kind topology)) box.rank ∙ is);
    }

-- the post of the box at a place
pub home_is : {C : Type 0} (topology : Topology) (f : C → Kind) (stock : List C) (at : ℕ) (box : C) (kind : Kind) (before : ℕ) (result : Option Post) → at < length stock → box ≡ get_or stock at box → kind ≡ f box
    → before ≡ boxes_of_kind kind (map f (take at stock)) → result ≡ slice_get (posts_with kind topology) before → result ≡ post_for topology (map f stock) at
home_is topology f stock at box kind before result within is own number found =
    let here : slice_get (map f stock) at ≡ Some kind = slice_get-map f stock at ∙ (ap (option_map f) (slice_get_read stock (length stock) at box refl within is) ∙ ap Some (sym own)) in
    let count : boxes_of_kind kind (take at (map f stock)) ≡ before = ap (boxes_of_kind kind) (take-map f at stock) ∙ sym number in
    found ∙ sym (ap (λ o. post_by topology o (take at (map f stock))) here ∙ ap (slice_get (posts_with kind topology)) count)
