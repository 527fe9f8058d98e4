-- What a fetch may bring, summed stage by stage.
use Rattle.std.proofs.Common.{◌≡◌, ℕ, suc, ◌+◌, ◌-◌, List, [], ◌∷◌, Bool, true, false, refl, ap, sym, ◌∙◌, Some, arith}
use Rattle.std.specs.Prelude.{if◌then◌else◌, ◌&&◌, sum_by, slice_get}
use Rattle.std.proofs.lemmas.List.Sums.{sum_by-cons}
use Rattle.pipe_types.specs.declared.numbers.StageNo.{StageNo}
use Rattle.pipe_types.specs.declared.numbers.SubNo.{SubNo}
use Rattle.pipe_types.specs.declared.topology.Topology.{Topology}
use Rattle.pipe_types.specs.declared.topology.StageSpec.{StageSpec}
use Rattle.pipe_types.specs.declared.step.Step.TheVariants.{Fetch}
use Rattle.pipe_types.specs.Numbers.{same_stage, same_sub, post}
use Rattle.pipe_types.specs.Stages.{feeds}
use Rattle.pipe_model.specs.History.{History, asked}
use Rattle.pipe_model.specs.Lives.{is_live, current_sub, live_subs_from}
use Rattle.pipe_model.specs.Posts.{is_out}
use Rattle.pipe_model.specs.Flow.{room, open_demand, sent}
use Rattle.pipe_model.specs.Legal.{fetch_out, fetches_out, is_producer_role}
use Rattle.pipe_laws.proofs.Tests.{and_left}
use Rattle.core_laws.specs.Columns.{last_fetch}

-- sums of what is equal place by place
pub sum_alike : {A : Type 0} (f g : A → ℕ) (xs : List A) → ((i : ℕ) (x : A) → slice_get xs i ≡ Some x → f x ≡ g x) → sum_by f xs ≡ sum_by g xs
sum_alike f g [] same = refl
sum_alike f g (x ∷ xs) same =
    sum_by-cons f x xs
    ∙ (ap (λ n. n + sum_by f xs) (same 0 x refl)
    ∙ (ap (λ n. g x + n) (sum_alike f g xs (λ i y e. same (suc i) y e)) ∙ sym (sum_by-cons g x xs)))

-- Fetches that are out

abbrev bound_of_last : History → StageNo → ℕ
bound_of_last [] s = 0
bound_of_last (Fetch t n ∷ before) s = if same_stage s t then n else bound_of_last before s
bound_of_last (_ ∷ before) s = bound_of_last before s

last_is : (before : History) (s : StageNo) → bound_of_last before s ≡ last_fetch before s
last_is [] s = refl
last_is (Fetch t n ∷ before) s = ap (λ x. if same_stage s t then n else x) (last_is before s)
last_is (step ∷ before) s = last_is before s

-- the bound of a fetch that is out is that of the last fetch
pub fetch_out_is : (before : History) (s : StageNo) → fetch_out before s ≡ (if is_out before (post s 0) then last_fetch before s else 0)
fetch_out_is before s = ap (λ x. if is_out before (post s 0) then x else 0) (last_is before s)

abbrev sum_out : History → List StageSpec → ℕ
sum_out before [] = 0
sum_out before (spec ∷ specs) = if is_producer_role spec.role then fetch_out before spec.no + sum_out before specs else sum_out before specs

-- the bound of a producer's fetch
abbrev pub out_of : History → StageSpec → ℕ
out_of before spec = if is_producer_role spec.role then fetch_out before spec.no else 0

outs_are : (before : History) (specs : List StageSpec) → sum_out before specs ≡ sum_by (out_of before) specs
outs_are before [] = refl
outs_are before (spec ∷ specs) = by (is_producer_role spec.role) (outs_are before specs) ∙ sym (sum_by-cons (out_of before) spec specs)
  where
    by : (b : Bool) → sum_out before specs ≡ sum_by (out_of before) specs
        → (if b then fetch_out before spec.no + sum_out before specs else sum_out before specs) ≡ (if b then fetch_out before spec.no else 0) + sum_by (out_of before) specs
    by true rest = ap (λ n. fetch_out before spec.no + n) rest
    by false rest = omega (arith, rest)

-- the fetches that are out may bring what each of them may
pub fetches_are : (topology : Topology) (before : History) → fetches_out topology before ≡ sum_by (out_of before) topology.stages
fetches_are topology before = outs_are before topology.stages

-- Rooms

abbrev sum_open : Topology → History → List SubNo → ℕ
sum_open topology before [] = 0
sum_open topology before (u ∷ subs) = open_demand topology before u + sum_open topology before subs

-- the open demand of a stage that may feed on the other
abbrev pub open_to : Topology → History → StageNo → StageSpec → ℕ
open_to topology before s c = if feeds topology s c.no then open_demand topology before (current_sub topology before c.no s) else 0

-- a closed subscription has no open demand
none_open : (fed live_p live_c same : Bool) (n : ℕ) → (live_p && (fed && live_c)) ≡ false → (if fed then (if fed && (live_p && (live_c && same)) then n else 0) else 0) ≡ 0
none_open false p c same n h = refl
none_open true false c same n h = refl
none_open true true false same n h = refl
none_open true true true same n h = cc

closed : (topology : Topology) (before : History) (s : StageNo) (c : StageSpec) → (is_live topology before s && (feeds topology s c.no && is_live topology before c.no)) ≡ false → open_to topology before s c ≡ 0
closed topology before s c h =
    none_open (feeds topology s c.no) (is_live topology before s) (is_live topology before c.no) (same_sub (current_sub topology before c.no s) (current_sub topology before c.no s))
    (asked before (current_sub topology before c.no s) - sent topology before (current_sub topology before c.no s)) h

opens_are : (topology : Topology) (before : History) (s : StageNo) (specs : List StageSpec) → is_live topology before s ≡ true
    → sum_open topology before (live_subs_from topology before s specs) ≡ sum_by (open_to topology before s) specs
opens_are topology before s [] live = refl
opens_are topology before s (c ∷ specs) live =
    by (feeds topology s c.no && is_live topology before c.no) refl (opens_are topology before s specs live) ∙ sym (sum_by-cons (open_to topology before s) c specs)
  where
    by : (b : Bool) → (feeds topology s c.no && is_live topology before c.no) ≡ b → sum_open topology before (live_subs_from topology before s specs) ≡ sum_by (open_to topology before s) specs
        → sum_open topology before (if b then current_sub topology before c.no s ∷ live_subs_from topology before s specs else live_subs_from topology before s specs)
        ≡ open_to topology before s c + sum_by (open_to topology before s) specs
    by true e rest =
        let fed : feeds topology s c.no ≡ true = and_left (feeds topology s c.no) _ e in
        let here : open_to topology before s c ≡ open_demand topology before (current_sub topology before c.no s) =
        ap (λ b. if b then open_demand topology before (current_sub topology before c.no s) else 0) fed in
        ap (λ n. open_demand topology before (current_sub topology before c.no s) + n) rest ∙ ap (λ n. n + sum_by (open_to topology before s) specs) (sym here)
    by false e rest =
        let none : open_to topology before s c ≡ 0 = closed topology before s c (ap (λ b. b && (feeds topology s c.no && is_live topology before c.no)) live ∙ e) in
        omega (arith, rest, none)

all_closed : (topology : Topology) (before : History) (s : StageNo) (specs : List StageSpec) → is_live topology before s ≡ false → 0 ≡ sum_by (open_to topology before s) specs
all_closed topology before s [] dead = refl
all_closed topology before s (c ∷ specs) dead =
    let none : open_to topology before s c ≡ 0 = closed topology before s c (ap (λ b. b && (feeds topology s c.no && is_live topology before c.no)) dead) in
    omega (arith, none, all_closed topology before s specs dead, sum_by-cons (open_to topology before s) c specs)

-- the room of a stage is the open demand of each that may feed on it
pub room_is : (topology : Topology) (before : History) (s : StageNo) → room topology before s ≡ sum_by (open_to topology before s) topology.stages
room_is topology before s = by (is_live topology before s) refl
  where
    by : (b : Bool) → is_live topology before s ≡ b
        → sum_open topology before (if b then live_subs_from topology before s topology.stages else []) ≡ sum_by (open_to topology before s) topology.stages
    by true live = opens_are topology before s topology.stages live
    by false dead = all_closed topology before s topology.stages dead
