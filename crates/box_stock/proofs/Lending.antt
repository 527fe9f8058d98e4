-- What arming, lending and giving back leave of boxes and bodies.
use Rattle.std.proofs.Common.{◌≡◌, ◌≢◌, ℕ, zero, suc, ◌+◌, ◌-◌, ◌<◌, ◌≤◌, Bool, true, false, List, [], ◌∷◌, ◌++◌, length, take, refl, ap, sym, ◌∙◌, subst, arith, Option, Some, None, Result, Ok, Err, inl, inr}
use Rattle.std.specs.Prelude.{slice_get, ◌==◌, if◌then◌else◌, option_map, OnErr}
use Rattle.std.proofs.lemmas.Bool.{cases_lt, ne_eqb, eq-eqb}
use Rattle.std.proofs.lemmas.Option.{slice_get_past, slice_get_within}
use Rattle.pipe_laws.proofs.Tests.{same_stage-true}
use Rattle.pipe_types.specs.declared.numbers.StageNo.{StageNo}
use Rattle.pipe_types.specs.declared.numbers.Post.{Post}
use Rattle.pipe_types.specs.declared.topology.Role.{Role}
use Rattle.pipe_types.specs.declared.topology.Role.TheVariants.{Producer, Processor, Supervisor, Batcher, BatchProcessor}
use Rattle.pipe_types.specs.declared.topology.StageSpec.{StageSpec}
use Rattle.pipe_types.specs.declared.topology.Topology.{Topology}
use Rattle.pipe_types.specs.Numbers.{post, same_stage}
use Rattle.pipe_types.specs.Sound.{is_producer}
use Rattle.pipe_types.specs.Stages.{spec_of, spec_in}
use Rattle.stage_bodies.specs.Seen.{BoxSeen, BodySeen}
use Rattle.stage_bodies.specs.Jobs.{Both}
use Rattle.stage_bodies.specs.Posts.{place_at}
use Rattle.stage_laws.specs.Numbered.{IsNumberedTopology}
use Rattle.box_stock.specs.Homes.{joined}
use Rattle.box_stock.specs.Lends.{IsSameBox, IsArmedWith, IsArmedFor, IsSlipOf, IsLent, HoldsBox, AreApart, spec_at, is_home, bare_body, body_with, box_at, callback_in, back_for, without_box}
use Rattle.box_stock.specs.declared.handing.Slip.{Slip}
use Rattle.box_stock.specs.declared.handing.Slip.TheVariants.{Lent, Kept}
use Rattle.box_stock.proofs.Lists.{front, behind}

-- ---- arming

-- what is known holds also where there was an error
pub on_err : {T E P : Type 0} → (r : Result T E) → P → OnErr r P
on_err (Ok x) p = tt
on_err (Err e) p = p

pub same_box : (x : BoxSeen) → IsSameBox x x
same_box x = record { kind = refl; law = refl; resets = refl; told = refl; said = λ t. refl; calls = omega arith; bad = omega arith }

same_with : (o : Option StageSpec) (x y : BoxSeen) → IsArmedWith o x y → IsSameBox x y
same_with (Some spec) x y fresh = fresh.same
same_with None x y is = subst (IsSameBox x) (sym is) (same_box x)

armed_same : (topology : Topology) (home : Option Post) (x y : Option BoxSeen) → Both (IsArmedFor topology home) x y → Both IsSameBox x y
armed_same topology home (Some x) (Some y) both = same_with (spec_at topology home) x y both
armed_same topology home None None both = tt
armed_same topology home (Some x) None both = absurd both
armed_same topology home None (Some y) both = absurd both

none_same : (x y : Option BoxSeen) → y ≡ x → Both IsSameBox x y
none_same (Some x) (Some y) is = let same : y ≡ x = cc in subst (IsSameBox x) (sym same) (same_box x)
none_same None None is = tt
none_same (Some x) None is = cc
none_same None (Some y) is = cc

-- want of memory at a box: those before it are armed
pub refused_all : (topology : Topology) (home : ℕ → Option Post) (at : ℕ) (old now new : ℕ → Option BoxSeen)
    → ((k : ℕ) → k < at → Both (IsArmedFor topology (home k)) (old k) (now k)) → ((k : ℕ) → at ≤ k → now k ≡ old k)
    → Both IsSameBox (now at) (new at) → ((k : ℕ) → k ≢ at → new k ≡ now k) → (k : ℕ) → Both IsSameBox (old k) (new k)
refused_all topology home at old now new armed rest here others k =
    elim (cases_lt k at) [
      | inl below ↦ subst (Both IsSameBox (old k)) (sym (others k (λ e. omega (arith, below, e)))) (armed_same topology (home k) (old k) (now k) (armed k below))
      | inr up ↦
          elim (cases_lt at k) [
            | inl past ↦ none_same (old k) (new k) (others k (λ e. omega (arith, past, e)) ∙ rest k up)
            | inr down ↦
                let is : at ≡ k = omega (arith, up, down) in
                subst (λ i. Both IsSameBox (old i) (new i)) is (subst (λ x. Both IsSameBox x (new at)) (rest at (omega arith)) here)
          ]
    ]

-- one box more is armed
pub armed_more : (topology : Topology) (home : ℕ → Option Post) (at : ℕ) (this : Option Post) (old now new : ℕ → Option BoxSeen) → this ≡ home at
    → ((k : ℕ) → k < at → Both (IsArmedFor topology (home k)) (old k) (now k)) → ((k : ℕ) → at ≤ k → now k ≡ old k)
    → Both (IsArmedFor topology this) (now at) (new at) → ((k : ℕ) → k ≢ at → new k ≡ now k) → (k : ℕ) → k < at + 1 → Both (IsArmedFor topology (home k)) (old k) (new k)
armed_more topology home at this old now new own armed rest here others k within =
    elim (cases_lt k at) [
      | inl below ↦ subst (Both (IsArmedFor topology (home k)) (old k)) (sym (others k (λ e. omega (arith, below, e)))) (armed k below)
      | inr up ↦
          let is : at ≡ k = omega (arith, up, within) in
          subst (λ i. Both (IsArmedFor topology (home i)) (old i) (new i)) is
          (subst (λ h. Both (IsArmedFor topology h) (old at) (new at)) own (subst (λ x. Both (IsArmedFor topology this) x (new at)) (rest at (omega arith)) here))
    ]

-- no box stands past the last
pub no_box : {C : Type 0} (seen : C → BoxSeen) (stock : List C) (k : ℕ) → length stock ≤ k → box_at seen stock k ≡ None
no_box seen stock k past = ap (option_map seen) (slice_get_past stock k past)

pub armed_all : (topology : Topology) (home : ℕ → Option Post) (at : ℕ) (old now : ℕ → Option BoxSeen) → ((k : ℕ) → k < at → Both (IsArmedFor topology (home k)) (old k) (now k))
    → ((k : ℕ) → at ≤ k → (old k ≡ None) × (now k ≡ None)) → (k : ℕ) → Both (IsArmedFor topology (home k)) (old k) (now k)
armed_all topology home at old now armed none k =
    elim (cases_lt k at) [
      | inl below ↦ armed k below
      | inr up ↦ subst (λ x. Both (IsArmedFor topology (home k)) x (now k)) (sym (none k up).0) (subst (Both (IsArmedFor topology (home k)) None) (sym (none k up).1) tt)
    ]

-- ---- producers

written : (t u : Bool) (new old : Option BodySeen) → new ≡ (if t then (if u then Some bare_body else old) else old) → t ≡ true → u ≡ true → new ≡ Some bare_body
written true true new old e t u = e
written true false new old e t u = cc
written false u new old e t v = cc

kept : (t u : Bool) (new old : Option BodySeen) → new ≡ (if t then (if u then Some bare_body else old) else old) → old ≡ Some bare_body → new ≡ Some bare_body
kept true true new old e was = e
kept true false new old e was = e ∙ was
kept false u new old e was = e ∙ was

unwritten : (t u : Bool) (new old : Option BodySeen) → new ≡ (if t then (if u then Some bare_body else old) else old) → (t ≡ true → u ≡ false) → new ≡ old
unwritten true true new old e not = let n : true ≡ false = not refl in cc
unwritten true false new old e not = e
unwritten false u new old e not = e

is_seat : (r : Role) → r ≡ Producer → is_producer r ≡ true
is_seat r e = ap is_producer e

seat_role : (r : Role) → is_producer r ≡ true → r ≡ Producer
seat_role Producer e = refl
seat_role Processor e = cc
seat_role Supervisor e = cc
seat_role Batcher e = cc
seat_role BatchProcessor e = cc

pub seated_more : (topology : Topology) (at : ℕ) (spec : StageSpec) (now new : ℕ → Option BodySeen) → slice_get topology.stages at ≡ Some spec
    → ((s : ℕ) → new s ≡ (if is_producer spec.role then (if place_at (post spec.no 0) == s then Some bare_body else now s) else now s))
    → ((i : ℕ) (t : StageSpec) → i < at → slice_get topology.stages i ≡ Some t → t.role ≡ Producer → now (place_at (post t.no 0)) ≡ Some bare_body)
    → (i : ℕ) (t : StageSpec) → i < at + 1 → slice_get topology.stages i ≡ Some t → t.role ≡ Producer → new (place_at (post t.no 0)) ≡ Some bare_body
seated_more topology at spec now new here table seated i t within is role =
    elim (cases_lt i at) [
      | inl below ↦ kept (is_producer spec.role) (place_at (post spec.no 0) == place_at (post t.no 0)) (new (place_at (post t.no 0))) (now (place_at (post t.no 0))) (table (place_at (post t.no 0))) (seated i t below is role)
      | inr up ↦
          let same : i ≡ at = omega (arith, up, within) in
          let specs : Some t ≡ Some spec = sym is ∙ (ap (slice_get topology.stages) same ∙ here) in
          let this : t ≡ spec = cc in
          written (is_producer spec.role) (place_at (post spec.no 0) == place_at (post t.no 0)) (new (place_at (post t.no 0))) (now (place_at (post t.no 0))) (table (place_at (post t.no 0)))
          (is_seat spec.role (subst (λ (x : StageSpec). x.role ≡ Producer) this role)) (eq-eqb (place_at (post spec.no 0)) (place_at (post t.no 0)) (ap (λ (x : StageSpec). place_at (post x.no 0)) (sym this)))
    ]

pub seats_others : (topology : Topology) (at : ℕ) (spec : StageSpec) (old now new : ℕ → Option BodySeen) → IsNumberedTopology topology → slice_get topology.stages at ≡ Some spec
    → ((s : ℕ) → new s ≡ (if is_producer spec.role then (if place_at (post spec.no 0) == s then Some bare_body else now s) else now s))
    → ((k : ℕ) → ((s : StageNo) (t : StageSpec) → spec_of topology s ≡ Some t → t.role ≡ Producer → place_at (post s 0) ≢ k) → now k ≡ old k)
    → (k : ℕ) → ((s : StageNo) (t : StageSpec) → spec_of topology s ≡ Some t → t.role ≡ Producer → place_at (post s 0) ≢ k) → new k ≡ old k
seats_others topology at spec old now new numbered here table others k apart =
    unwritten (is_producer spec.role) (place_at (post spec.no 0) == k) (new k) (now k) (table k)
    (λ t. ne_eqb (place_at (post spec.no 0)) k (apart spec.no spec (numbered.found at spec here) (seat_role spec.role t)))
    ∙ others k apart

-- the post of a stage that is found stands in the list
pub record StandsAt (topology : Topology) (s : StageNo) (spec : StageSpec) : Type 0 where
  pub at : ℕ
  pub here : slice_get topology.stages at ≡ Some spec
  pub no : spec.no ≡ s

index_in : (stages : List StageSpec) (s : StageNo) (spec : StageSpec) → spec_in stages s ≡ Some spec → (at : ℕ) × ((slice_get stages at ≡ Some spec) × (spec.no ≡ s))
index_in [] s spec e = cc
index_in (x ∷ xs) s spec e = by_test (same_stage x.no s) refl (λ h. index_in xs s spec h)
  where
    by_test : (t : Bool) → same_stage x.no s ≡ t → (spec_in xs s ≡ Some spec → (at : ℕ) × ((slice_get xs at ≡ Some spec) × (spec.no ≡ s))) → (at : ℕ) × ((slice_get (x ∷ xs) at ≡ Some spec) × (spec.no ≡ s))
    by_test true same later =
        let found : Some x ≡ Some spec = sym (ap (λ t. if t then Some x else spec_in xs s) same) ∙ e in
        let is : x ≡ spec = cc in
        (0, (found, ap (λ (y : StageSpec). y.no) (sym is) ∙ same_stage-true x.no s same))
    by_test false other later =
        let rest = later (sym (ap (λ t. if t then Some x else spec_in xs s) other) ∙ e) in
        (suc rest.0, (rest.1.0, rest.1.1))

pub stands : (topology : Topology) (s : StageNo) (spec : StageSpec) → spec_of topology s ≡ Some spec → StandsAt topology s spec
stands topology s spec e = let found = index_in topology.stages s spec e in record { at = found.0; here = found.1.0; no = found.1.1 }

pub seated_all : (topology : Topology) (at : ℕ) (now : ℕ → Option BodySeen) → length topology.stages ≤ at
    → ((i : ℕ) (t : StageSpec) → i < at → slice_get topology.stages i ≡ Some t → t.role ≡ Producer → now (place_at (post t.no 0)) ≡ Some bare_body)
    → (s : StageNo) (t : StageSpec) → spec_of topology s ≡ Some t → t.role ≡ Producer → now (place_at (post s 0)) ≡ Some bare_body
seated_all topology at now past seated s t e role =
    let found = stands topology s t e in
    let within : found.at < at = omega (arith, slice_get_within topology.stages found.at t found.here, past) in
    subst (λ (n : StageNo). now (place_at (post n 0)) ≡ Some bare_body) found.no (seated found.at t within found.here role)

-- ---- lending

pub get_take : {A : Type 0} (xs : List A) (n k : ℕ) → k < n → slice_get (take n xs) k ≡ slice_get xs k
get_take [] zero k below = absurd (omega (arith, below))
get_take [] (suc n) k below = refl
get_take (x ∷ xs) zero k below = absurd (omega (arith, below))
get_take (x ∷ xs) (suc n) zero below = refl
get_take (x ∷ xs) (suc n) (suc k) below = get_take xs n k (omega (arith, below))

pub take_less : {A : Type 0} (xs : List A) (a b : ℕ) → a ≤ b → take a (take b xs) ≡ take a xs
take_less xs zero b low = refl
take_less xs (suc a) zero low = absurd (omega (arith, low))
take_less [] (suc a) (suc b) low = refl
take_less (x ∷ xs) (suc a) (suc b) low = ap (λ l. x ∷ l) (take_less xs a b (omega (arith, low)))

pub last_of : {A : Type 0} (xs : List A) (x : A) (n : ℕ) → n ≡ length xs → slice_get (xs ++ x ∷ []) n ≡ Some x
last_of xs x n is = let none : n ≡ length xs + 0 = omega (arith, is) in ap (slice_get (xs ++ x ∷ [])) none ∙ behind xs (x ∷ []) 0

-- what was last of the first ones
pub popped : {A : Type 0} (all now rest : List A) (x : A) (n m : ℕ) → now ≡ take n all → now ≡ rest ++ x ∷ [] → m ≡ length rest → m < n → slice_get all m ≡ Some x
popped all now rest x n m is parts number below = sym (get_take all n m below) ∙ (ap (λ l. slice_get l m) (sym is ∙ parts) ∙ last_of rest x m number)

-- what is left of the first ones
pub left_on : {A : Type 0} (all now rest : List A) (n m : ℕ) → now ≡ take n all → rest ≡ take m now → m ≤ n → rest ≡ take m all
left_on all now rest n m is parts low = parts ∙ (ap (take m) is ∙ take_less all m n low)

holds_new : (home : Option Post) (box : BoxSeen) (old new : ℕ → Option BodySeen) → ((s : ℕ) → new s ≡ (if is_home home s then Some (body_with box) else old s)) → HoldsBox home box new
holds_new (Some p) box old new table = table (place_at p) ∙ ap (λ t. if t then Some (body_with box) else old (place_at p)) (eq-eqb (place_at p) (place_at p) refl)
holds_new None box old new table = tt

not_home : (home : Option Post) (s : ℕ) → ((p : Post) → home ≡ Some p → place_at p ≢ s) → is_home home s ≡ false
not_home (Some p) s apart = ne_eqb (place_at p) s (apart p refl)
not_home None s apart = refl

pub elsewhere : (home : Option Post) (box : BoxSeen) (old new : ℕ → Option BodySeen) → ((s : ℕ) → new s ≡ (if is_home home s then Some (body_with box) else old s))
    → (s : ℕ) → ((p : Post) → home ≡ Some p → place_at p ≢ s) → new s ≡ old s
elsewhere home box old new table s apart = table s ∙ ap (λ t. if t then Some (body_with box) else old s) (not_home home s apart)

holds_still : (this other : Option Post) (box own : BoxSeen) (old new : ℕ → Option BodySeen) → ((s : ℕ) → new s ≡ (if is_home this s then Some (body_with box) else old s))
    → ((p q : Post) → other ≡ Some p → this ≡ Some q → place_at q ≢ place_at p) → HoldsBox other own old → HoldsBox other own new
holds_still this (Some p) box own old new table apart held = elsewhere this box old new table (place_at p) (λ q e. apart p q refl e) ∙ held
holds_still this None box own old new table apart held = tt

lent_still : {C : Type 0} (seen : C → BoxSeen) (this other : Option Post) (box : BoxSeen) (old new : ℕ → Option BodySeen) (x : Option BoxSeen) (y : Option (Slip C)) → ((s : ℕ) → new s ≡ (if is_home this s then Some (body_with box) else old s))
    → ((p q : Post) → other ≡ Some p → this ≡ Some q → place_at q ≢ place_at p) → Both (IsLent seen other old) x y → Both (IsLent seen other new) x y
lent_still seen this other box old new (Some x) (Some y) table apart lent = record { slip = lent.slip; held = holds_still this other box x old new table apart lent.held }
lent_still seen this other box old new None None table apart lent = tt
lent_still seen this other box old new (Some x) None table apart lent = absurd lent
lent_still seen this other box old new None (Some y) table apart lent = absurd lent

pub lent_more : {C : Type 0} (seen : C → BoxSeen) (homes : List (Option Post)) (all : List C) (slips : List (Slip C)) (slip : Slip C) (callback : C) (home : Option Post) (m done : ℕ) (old new : ℕ → Option BodySeen)
    → AreApart (λ k. joined (slice_get homes k)) → home ≡ joined (slice_get homes m) → m + (done + 1) ≡ length all → length slips ≡ done → slice_get all m ≡ Some callback
    → IsSlipOf seen home (seen callback) slip → ((s : ℕ) → new s ≡ (if is_home home s then Some (body_with (seen callback)) else old s))
    → ((k : ℕ) → k < length all → m + 1 ≤ k → Both (IsLent seen (joined (slice_get homes k)) old) (box_at seen all k) (slice_get slips (length all - suc k)))
    → (k : ℕ) → k < length all → m ≤ k → Both (IsLent seen (joined (slice_get homes k)) new) (box_at seen all k) (slice_get (slips ++ slip ∷ []) (length all - suc k))
lent_more seen homes all slips slip callback home m done old new apart own number count here written table lent k within up =
    elim (cases_lt m k) [
      | inl past ↦
          let first : slice_get (slips ++ slip ∷ []) (length all - suc k) ≡ slice_get slips (length all - suc k) = front slips (slip ∷ []) (length all - suc k) (omega (arith, within, past, number, count)) in
          subst (Both (IsLent seen (joined (slice_get homes k)) new) (box_at seen all k)) (sym first)
          (lent_still seen home (joined (slice_get homes k)) (seen callback) old new (box_at seen all k) (slice_get slips (length all - suc k)) table
          (λ p q one other same. let e : m ≡ k = apart m k q p (sym own ∙ other) one same in omega (arith, past, e)) (lent k within (omega (arith, past))))
      | inr down ↦
          let is : m ≡ k = omega (arith, up, down) in
          let last : slice_get (slips ++ slip ∷ []) (length all - suc k) ≡ Some slip = last_of slips slip (length all - suc k) (omega (arith, number, count, is)) in
          let box : box_at seen all k ≡ Some (seen callback) = ap (box_at seen all) (sym is) ∙ ap (option_map seen) here in
          let this : home ≡ joined (slice_get homes k) = own ∙ ap (λ i. joined (slice_get homes i)) is in
          let it : IsLent seen home new (seen callback) slip = record { slip = written; held = holds_new home (seen callback) old new table } in
          subst (λ h. Both (IsLent seen h new) (box_at seen all k) (slice_get (slips ++ slip ∷ []) (length all - suc k))) this
          (subst (λ y. Both (IsLent seen home new) (box_at seen all k) y) (sym last) (subst (λ x. Both (IsLent seen home new) x (Some slip)) (sym box) it))
    ]

-- ---- giving back

pub back_from : {C : Type 0} (seen : C → BoxSeen) (slip : Slip C) (start now : ℕ → Option BodySeen) → ((at : ℕ) → slip ≡ Lent at → now at ≡ start at) → back_for seen now (Some slip) ≡ back_for seen start (Some slip)
back_from seen (Lent at) start now same = ap callback_in (same at refl)
back_from seen (Kept box) start now same = refl

pub back_more : {C : Type 0} (seen : C → BoxSeen) (boxes : List C) (box : C) (done : ℕ) (want : ℕ → Option BoxSeen) → length boxes ≡ done → Some (seen box) ≡ want done
    → ((k : ℕ) → k < done → box_at seen boxes k ≡ want k) → (k : ℕ) → k < done + 1 → box_at seen (boxes ++ box ∷ []) k ≡ want k
back_more seen boxes box done want count this before k within =
    elim (cases_lt k done) [
      | inl below ↦ ap (option_map seen) (front boxes (box ∷ []) k (omega (arith, below, count))) ∙ before k below
      | inr up ↦
          let is : k ≡ done = omega (arith, up, within) in
          ap (option_map seen) (last_of boxes box k (omega (arith, is, count))) ∙ (this ∙ ap want (sym is))
    ]

twice : (o : Option BodySeen) → option_map without_box (option_map without_box o) ≡ option_map without_box o
twice None = refl
twice (Some body) = refl

-- where one body was emptied, what else the bodies hold is as it was
pub rest_left : (at : ℕ) (old new : ℕ → Option BodySeen) → new at ≡ option_map without_box (old at) → ((s : ℕ) → at ≢ s → new s ≡ old s)
    → (s : ℕ) → option_map without_box (new s) ≡ option_map without_box (old s)
rest_left at old new emptied others s =
    elim (cases_lt at s) [
      | inl below ↦ ap (option_map without_box) (others s (λ e. omega (arith, below, e)))
      | inr up ↦
          elim (cases_lt s at) [
            | inl above ↦ ap (option_map without_box) (others s (λ e. omega (arith, above, e)))
            | inr down ↦
                let is : at ≡ s = omega (arith, up, down) in
                subst (λ i. option_map without_box (new i) ≡ option_map without_box (old i)) is (ap (option_map without_box) emptied ∙ twice (old at))
          ]
    ]
