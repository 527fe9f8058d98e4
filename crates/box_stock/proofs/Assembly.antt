-- What handing out comes to.
use Rattle.std.proofs.Common.{◌≡◌, ◌≢◌, ℕ, suc, ◌-◌, ◌*◌, ◌<◌, true, List, length, take, refl, ap, sym, ◌∙◌, subst, arith, true≢false, Option, Some, None, inl, inr}
use Rattle.std.specs.Prelude.{slice_get, option_map, IsSome, IfSome}
use Rattle.std.proofs.lemmas.List.{length-map}
use Rattle.std.proofs.lemmas.Bool.{cases_lt, eqb-true, ltb-true}
use Rattle.std.proofs.lemmas.Option.{slice_get_past, slice_get_within, slice_get-map}
use Rattle.pipe_types.specs.declared.numbers.StageNo.{StageNo}
use Rattle.pipe_types.specs.declared.numbers.Post.{Post}
use Rattle.pipe_types.specs.declared.topology.Kind.{Kind}
use Rattle.pipe_types.specs.declared.topology.Role.{Role}
use Rattle.pipe_types.specs.declared.topology.Role.TheVariants.{Producer, Processor, Supervisor, Batcher, BatchProcessor}
use Rattle.pipe_types.specs.declared.topology.StageSpec.{StageSpec}
use Rattle.pipe_types.specs.declared.topology.Topology.{Topology}
use Rattle.pipe_types.specs.Numbers.{post}
use Rattle.pipe_types.specs.Sound.{IsSound}
use Rattle.pipe_types.specs.Stages.{spec_of}
use Rattle.stage_bodies.specs.Seen.{BoxSeen, BodySeen}
use Rattle.stage_bodies.specs.Jobs.{Both}
use Rattle.stage_bodies.specs.Posts.{place_at}
use Rattle.stage_laws.proofs.Numbering.{numbered_topology}
use Rattle.body_laws.specs.Keeps.{has_slot, has_post, has_post_in}
use Rattle.body_laws.specs.Ready.{There}
use Rattle.body_laws.proofs.Posts.{own_places}
use Rattle.topology_needs.specs.Needs.{posts_in, posts_of}
use Rattle.box_stock.specs.Homes.{joined, post_by, post_for, Suffices}
use Rattle.stage_job.specs.Boxes.{boxes_of_kind}
use Rattle.box_stock.specs.Lends.{AreApart, AreHandedOut, AreStillThere, IsArmedFor, IsArmedWith, IsFreshBox, IsBodyBefore, IsHandedOut, IsLent, bare_body, body_with, box_at, callback_in, kinds_of, slip_at}
use Rattle.box_stock.specs.declared.handing.Slip.{Slip}
use Rattle.box_stock.specs.declared.handing.Slip.TheVariants.{Lent, Kept}
use Rattle.box_stock.proofs.Located.{IsPostOf, home_found, post_of, served, apart}
use Rattle.box_stock.proofs.Lending.{stands}

-- ---- homes

-- each box is at the place of its kind in the stock
pub homes_are : (topology : Topology) (kinds : List Kind) (homes : List (Option Post)) (n : ℕ) → length homes ≡ n → length kinds ≡ n → ((k : ℕ) → k < n → slice_get homes k ≡ Some (post_for topology kinds k))
    → (k : ℕ) → joined (slice_get homes k) ≡ post_for topology kinds k
homes_are topology kinds homes n len many each k =
    elim (cases_lt k n) [
      | inl below ↦ ap joined (each k below)
      | inr past ↦
          ap joined (slice_get_past homes k (omega (arith, len, past))) ∙ sym (ap (λ o. post_by topology o (take k kinds)) (slice_get_past kinds k (omega (arith, many, past))))
    ]

pub homes_apart : (topology : Topology) (kinds : List Kind) (home : ℕ → Option Post) → IsSound topology → ((k : ℕ) → home k ≡ post_for topology kinds k) → AreApart home
homes_apart topology kinds home sound are j k p q one other same = apart topology kinds sound j k p q (sym (are j) ∙ one) (sym (are k) ∙ other) same

home_post : (topology : Topology) (kinds : List Kind) (k : ℕ) (p : Post) → IsSound topology → post_for topology kinds k ≡ Some p → (spec : StageSpec) × IsPostOf topology p spec
home_post topology kinds k p sound e =
    let v = home_found topology kinds k p e in
    (v.post.spec, post_of v.kind topology (boxes_of_kind v.kind (take k kinds)) p sound v.post)

pub homes_within : (topology : Topology) (kinds : List Kind) (home : ℕ → Option Post) (k : ℕ) (p : Post) → IsSound topology → ((j : ℕ) → home j ≡ post_for topology kinds j) → home k ≡ Some p → place_at p < 65 * 16
homes_within topology kinds home k p sound are e =
    let found = home_post topology kinds k p sound (sym (are k) ∙ e) in
    let numbered = numbered_topology topology sound in
    let most = (numbered.within p.stage found.0 found.1.found).1 in
    omega (arith, most, numbered.few, found.1.few)

within_by : (o : Option Post) (n : ℕ) → ((p : Post) → o ≡ Some p → place_at p < n) → IfSome o (λ p. place_at p < n)
within_by (Some p) n h = h p refl
within_by None n h = tt

pub homes_within_all : (topology : Topology) (kinds : List Kind) (home : ℕ → Option Post) → IsSound topology → ((j : ℕ) → home j ≡ post_for topology kinds j) → (k : ℕ) → IfSome (home k) (λ p. place_at p < 65 * 16)
homes_within_all topology kinds home sound are k = within_by (home k) (65 * 16) (λ p e. homes_within topology kinds home k p sound are e)

-- ---- the table

no_producer : (r : Role) (max slot : ℕ) → slot < posts_in r max → r ≡ Producer → ⊥
no_producer Producer max slot below is = omega (arith, below)
no_producer Processor max slot below is = cc
no_producer Supervisor max slot below is = cc
no_producer Batcher max slot below is = cc
no_producer BatchProcessor max slot below is = cc

-- no box is for a post of a producer
pub not_for_producer : (topology : Topology) (kinds : List Kind) (k : ℕ) (p : Post) (s : StageNo) (spec : StageSpec) → IsSound topology → post_for topology kinds k ≡ Some p
    → spec_of topology s ≡ Some spec → spec.role ≡ Producer → place_at p ≢ place_at (post s 0)
not_for_producer topology kinds k p s spec sound e found role same =
    let of = home_post topology kinds k p sound e in
    let is : p ≡ post s 0 = own_places p (post s 0) of.1.few (omega arith) same in
    let stage : p.stage ≡ s = ap (λ (q : Post). q.stage) is in
    let specs : Some of.0 ≡ Some spec = sym of.1.found ∙ (ap (spec_of topology) stage ∙ found) in
    let own : of.0 ≡ spec = cc in
    no_producer of.0.role of.0.max p.slot of.1.below (ap (λ (x : StageSpec). x.role) own ∙ role)

abbrev IsCarrier : Role → Type 0
IsCarrier Producer = ⊥
IsCarrier Processor = Unit {0}
IsCarrier Supervisor = Unit {0}
IsCarrier Batcher = ⊥
IsCarrier BatchProcessor = Unit {0}

abbrev IsSomeOfKind : Kind → Option BoxSeen → Type 0
IsSomeOfKind kind (Some box) = box.kind ≡ kind
IsSomeOfKind kind None = ⊥

-- a box at a place of the stock that was lent, armed
record IsHeld (spec : StageSpec) (body : Option BodySeen) : Type 0 where
  pub box : BoxSeen
  pub is : body ≡ Some (body_with box)
  pub own : box.spec ≡ spec
  pub kind : box.kind ≡ spec.kind
  pub count : box.count ≡ 0

held_by : {C : Type 0} (seen : C → BoxSeen) (topology : Topology) (p : Post) (spec : StageSpec) (table : ℕ → Option BodySeen) (old armed : Option BoxSeen) (slip : Option (Slip C))
    → spec_of topology p.stage ≡ Some spec → IsSomeOfKind spec.kind old → Both (IsArmedFor topology (Some p)) old armed → Both (IsLent seen (Some p) table) armed slip → IsHeld spec (table (place_at p))
held_by seen topology p spec table (Some old) (Some box) (Some slip) found kind armed lent =
    let fresh : IsFreshBox spec old box = subst (λ o. IsArmedWith o old box) found armed in
    record { box = box; is = lent.held; own = fresh.spec; kind = fresh.same.kind ∙ kind; count = fresh.count }
held_by seen topology p spec table (Some old) (Some box) None found kind armed lent = absurd lent
held_by seen topology p spec table (Some old) None slip found kind armed lent = absurd armed
held_by seen topology p spec table None armed slip found kind both lent = absurd kind

body_held : (spec : StageSpec) (r : Role) (o : Option BodySeen) → IsCarrier r → IsHeld spec o → There o (λ body. IsBodyBefore spec r body)
body_held spec r o carrier h = subst (λ x. There x (λ body. IsBodyBefore spec r body)) (sym h.is) (by_role r carrier)
  where
    by_role : (r : Role) → IsCarrier r → IsBodyBefore spec r (body_with h.box)
    by_role Producer c = absurd c
    by_role Processor c = (refl, h.own, h.kind, h.count)
    by_role Supervisor c = (refl, h.own, h.kind, h.count)
    by_role Batcher c = absurd c
    by_role BatchProcessor c = (refl, h.own, h.kind, h.count)

kind_at : {C : Type 0} (seen : C → BoxSeen) (stock : List C) (k : ℕ) (kind : Kind) → slice_get (kinds_of seen stock) k ≡ Some kind → IsSomeOfKind kind (box_at seen stock k)
kind_at {C} seen stock k kind e = by_box (slice_get stock k) (sym (slice_get-map (λ box. (seen box).kind) stock k) ∙ e)
  where
    by_box : (o : Option C) → option_map (λ box. (seen box).kind) o ≡ Some kind → IsSomeOfKind kind (option_map seen o)
    by_box (Some box) h = cc
    by_box None h = cc

-- what lending made of the table and the boxes
pub record IsAllLent {C : Type 0} (seen : C → BoxSeen) (topology : Topology) (stock : List C) (home : ℕ → Option Post) (armed : ℕ → Option BoxSeen) (slip : ℕ → Option (Slip C)) (start base table : ℕ → Option BodySeen) : Type 0 where
  pub sound : IsSound topology
  pub enough : Suffices topology (kinds_of seen stock)
  pub homes : (k : ℕ) → home k ≡ post_for topology (kinds_of seen stock) k
  pub arms : (k : ℕ) → Both (IsArmedFor topology (home k)) (box_at seen stock k) (armed k)
  pub none : (at : ℕ) → start at ≡ None
  pub seated : (s : StageNo) (spec : StageSpec) → spec_of topology s ≡ Some spec → spec.role ≡ Producer → base (place_at (post s 0)) ≡ Some bare_body
  pub others : (at : ℕ) → ((s : StageNo) (spec : StageSpec) → spec_of topology s ≡ Some spec → spec.role ≡ Producer → place_at (post s 0) ≢ at) → base at ≡ start at
  pub lent : (k : ℕ) → k < length stock → Both (IsLent seen (home k) table) (armed k) (slip k)
  pub rest : (at : ℕ) → ((k : ℕ) (p : Post) → home k ≡ Some p → place_at p ≢ at) → table at ≡ base at

carried : {C : Type 0} (seen : C → BoxSeen) (topology : Topology) (stock : List C) (home : ℕ → Option Post) (armed : ℕ → Option BoxSeen) (slip : ℕ → Option (Slip C)) (start base table : ℕ → Option BodySeen)
    → IsAllLent seen topology stock home armed slip start base table → (p : Post) (spec : StageSpec) → spec_of topology p.stage ≡ Some spec → p.slot < posts_of spec → IsHeld spec (table (place_at p))
carried seen topology stock home armed slip start base table all p spec found below =
    let at = stands topology p.stage spec found in
    let box = served topology (kinds_of seen stock) at.at p.slot spec all.enough at.here below in
    let own : post spec.no p.slot ≡ p = ap (λ n. post n p.slot) at.no in
    let mine : home box.at ≡ Some p = all.homes box.at ∙ (box.home ∙ ap Some own) in
    let within : box.at < length stock = omega (arith, slice_get_within (kinds_of seen stock) box.at spec.kind box.here, length-map stock (λ b. (seen b).kind)) in
    held_by seen topology p spec table (box_at seen stock box.at) (armed box.at) (slip box.at) found (kind_at seen stock box.at spec.kind box.here)
    (subst (λ h. Both (IsArmedFor topology h) (box_at seen stock box.at) (armed box.at)) mine (all.arms box.at))
    (subst (λ h. Both (IsLent seen h table) (armed box.at) (slip box.at)) mine (all.lent box.at within))

bare_there : {C : Type 0} (seen : C → BoxSeen) (topology : Topology) (stock : List C) (home : ℕ → Option Post) (armed : ℕ → Option BoxSeen) (slip : ℕ → Option (Slip C)) (start base table : ℕ → Option BodySeen)
    → IsAllLent seen topology stock home armed slip start base table → (s : StageNo) (spec : StageSpec) → spec_of topology s ≡ Some spec → spec.role ≡ Producer → table (place_at (post s 0)) ≡ Some bare_body
bare_there seen topology stock home armed slip start base table all s spec found role =
    all.rest (place_at (post s 0)) (λ k p e. not_for_producer topology (kinds_of seen stock) k p s spec all.sound (sym (all.homes k) ∙ e) found role) ∙ all.seated s spec found role

slot_below : (r : Role) (max slot : ℕ) → IsCarrier r → has_slot r max slot ≡ true → slot < posts_in r max
slot_below Producer max slot c h = absurd c
slot_below Processor max slot c h = let zero_slot : slot ≡ 0 = eqb-true slot 0 h in omega (arith, zero_slot)
slot_below Supervisor max slot c h = ltb-true slot max h
slot_below Batcher max slot c h = absurd c
slot_below BatchProcessor max slot c h = let zero_slot : slot ≡ 0 = eqb-true slot 0 h in omega (arith, zero_slot)

post_held : (spec : StageSpec) (p : Post) (r : Role) (x : Option BodySeen) → has_slot r spec.max p.slot ≡ true → (r ≡ Producer → p.slot ≡ 0 → x ≡ Some bare_body) → (IsCarrier r → p.slot < posts_in r spec.max → IsHeld spec x) → There x (λ body. IsBodyBefore spec r body)
post_held spec p Producer x h bare held = subst (λ o. There o (λ body. IsBodyBefore spec Producer body)) (sym (bare refl (eqb-true p.slot 0 h))) refl
post_held spec p Processor x h bare held = body_held spec Processor x tt (held tt (slot_below Processor spec.max p.slot tt h))
post_held spec p Supervisor x h bare held = body_held spec Supervisor x tt (held tt (slot_below Supervisor spec.max p.slot tt h))
post_held spec p Batcher x h bare held = cc
post_held spec p BatchProcessor x h bare held = body_held spec BatchProcessor x tt (held tt (slot_below BatchProcessor spec.max p.slot tt h))

with_spec : (o : Option StageSpec) (spec : StageSpec) (x : Option BodySeen) → o ≡ Some spec → There x (λ body. IsBodyBefore spec spec.role body) → There x (λ body. There o (λ sp. IsBodyBefore sp sp.role body))
with_spec o spec x is held = subst (λ q. There x (λ body. There q (λ sp. IsBodyBefore sp sp.role body))) (sym is) held

pub handed : {C : Type 0} (seen : C → BoxSeen) (topology : Topology) (stock : List C) (home : ℕ → Option Post) (armed : ℕ → Option BoxSeen) (slip : ℕ → Option (Slip C)) (start base table : ℕ → Option BodySeen)
    → IsAllLent seen topology stock home armed slip start base table → AreHandedOut topology table
handed {C} seen topology stock home armed slip start base table all = record {
  posts = λ p there. at_post p there (spec_of topology p.stage) refl;
  others = λ p low no.
      all.rest (place_at p) (λ k q e same.
      let of = home_post topology (kinds_of seen stock) k q all.sound (sym (all.homes k) ∙ e) in
      let is : q ≡ p = own_places q p of.1.few low same in
      true≢false (sym of.1.there ∙ (ap (has_post topology) is ∙ no)))
      ∙ (all.others (place_at p) (λ s spec found role same.
      let is : post s 0 ≡ p = own_places (post s 0) p (omega arith) low same in
      true≢false (sym (ap (λ o. has_post_in o 0) found ∙ ap (λ r. has_slot r spec.max 0) role) ∙ (ap (has_post topology) is ∙ no)))
      ∙ all.none (place_at p));
}
  where
    at_post : (p : Post) → has_post topology p ≡ true → (o : Option StageSpec) → spec_of topology p.stage ≡ o → There (table (place_at p)) (λ body. There (spec_of topology p.stage) (λ spec. IsBodyBefore spec spec.role body))
    at_post p there None found = absurd (true≢false (sym there ∙ ap (λ q. has_post_in q p.slot) found))
    at_post p there (Some spec) found =
        with_spec (spec_of topology p.stage) spec (table (place_at p)) found
        (post_held spec p spec.role (table (place_at p)) (sym (ap (λ q. has_post_in q p.slot) found) ∙ there)
        (λ role zero_slot. ap (λ n. table (place_at (post p.stage n))) zero_slot ∙ bare_there seen topology stock home armed slip start base table all p.stage spec found role)
        (λ c below. carried seen topology stock home armed slip start base table all p spec found below))

-- ---- slips

handed_box : {C : Type 0} (seen : C → BoxSeen) (topology : Topology) (home : Option Post) (table : ℕ → Option BodySeen) (old new : Option BoxSeen) (slip : Option (Slip C))
    → Both (IsArmedFor topology home) old new → Both (IsLent seen home table) new slip → IsHandedOut seen topology home table old slip
handed_box seen topology home table (Some old) (Some new) (Some slip) armed lent = (new, armed, lent)
handed_box seen topology home table None None None armed lent = tt
handed_box seen topology home table None None (Some slip) armed lent = absurd lent
handed_box seen topology home table (Some old) (Some new) None armed lent = absurd lent
handed_box seen topology home table (Some old) None slip armed lent = absurd armed
handed_box seen topology home table None (Some new) slip armed lent = absurd armed

pub handed_boxes : {C : Type 0} (seen : C → BoxSeen) (topology : Topology) (stock : List C) (home : ℕ → Option Post) (armed : ℕ → Option BoxSeen) (slip : ℕ → Option (Slip C)) (start base table : ℕ → Option BodySeen)
    → IsAllLent seen topology stock home armed slip start base table → (k : ℕ) → k < length stock → IsHandedOut seen topology (post_for topology (kinds_of seen stock) k) table (box_at seen stock k) (slip k)
handed_boxes seen topology stock home armed slip start base table all k within =
    subst (λ h. IsHandedOut seen topology h table (box_at seen stock k) (slip k)) (all.homes k)
    (handed_box seen topology (home k) table (box_at seen stock k) (armed k) (slip k) (all.arms k) (all.lent k within))

record IsLentHome (home : Option Post) (table : ℕ → Option BodySeen) (at : ℕ) : Type 0 where
  pub p : Post
  pub is : home ≡ Some p
  pub at_is : at ≡ place_at p
  pub some : IsSome (callback_in (table at))

lent_home : {C : Type 0} (seen : C → BoxSeen) (home : Option Post) (table : ℕ → Option BodySeen) (x : Option BoxSeen) (y : Option (Slip C)) (at : ℕ) → Both (IsLent seen home table) x y → y ≡ Some (Lent at) → IsLentHome home table at
lent_home seen (Some p) table (Some box) (Some (Lent place)) at lent e =
    let is : place ≡ at = cc in
    let here : at ≡ place_at p = sym is ∙ lent.slip in
    record { p = p; is = refl; at_is = here; some = subst (λ (o : Option BodySeen). IsSome (callback_in o)) (sym (ap table here ∙ lent.held)) refl }
lent_home seen None table (Some box) (Some (Lent place)) at lent e = absurd lent.slip
lent_home seen home table (Some box) (Some (Kept kept)) at lent e = cc
lent_home seen home table None (Some slip) at lent e = absurd lent
lent_home seen home table x None at lent e = cc

pub still_there : {C : Type 0} (seen : C → BoxSeen) (topology : Topology) (stock : List C) (home : ℕ → Option Post) (armed : ℕ → Option BoxSeen) (slips : List (Slip C)) (start base table : ℕ → Option BodySeen)
    → length slips ≡ length stock → AreApart home → IsAllLent seen topology stock home armed (λ k. slip_at slips k) start base table → AreStillThere slips table
still_there seen topology stock home armed slips start base table same apart all = record {
  there = λ k at e. (of k at e).some;
  apart = λ j k at one other.
      let v = of j at one in
      let w = of k at other in
      let places : place_at v.p ≡ place_at w.p = sym v.at_is ∙ w.at_is in
      let back : length slips - suc j ≡ length slips - suc k = apart (length slips - suc j) (length slips - suc k) v.p w.p v.is w.is places in
      let low = slice_get_within slips j (Lent at) one in
      let least = slice_get_within slips k (Lent at) other in
      omega (arith, back, low, least);
}
  where
    of : (k at : ℕ) → slice_get slips k ≡ Some (Lent at) → IsLentHome (home (length slips - suc k)) table at
    of k at e =
        let within = slice_get_within slips k (Lent at) e in
        let turned : length slips - suc (length slips - suc k) ≡ k = omega (arith, within) in
        lent_home seen (home (length slips - suc k)) table (armed (length slips - suc k)) (slip_at slips (length slips - suc k)) at
        (all.lent (length slips - suc k) (omega (arith, within, same))) (ap (slice_get slips) turned ∙ e)
