-- The shares of the producers keep the rate.
use Rattle.std.proofs.Common.{◌≡◌, ℕ, zero, suc, ◌+◌, ◌-◌, ◌<◌, ◌≤◌, ◌==◌, ◌&&◌, not, Bool, true, false, if◌then◌else◌, cond, List, [], ◌∷◌, length, take, get_or, arith, refl, ap, sym, subst, ◌∙◌}
use Rattle.std.specs.Prelude.{slice_get, Option, Some, None}
use Rattle.std.proofs.lemmas.Bool.{eq-eqb, ne_eqb}
use Rattle.std.proofs.lemmas.List.{take_all}
use Rattle.std.proofs.lemmas.List.Filters.{length-filter_more}
use Rattle.pipe_types.specs.Numbers.{post, same_stage, stage}
use Rattle.pipe_types.specs.Sound.{IsSound, is_producer, producers}
use Rattle.pipe_types.specs.Stages.{spec_of}
use Rattle.pipe_types.specs.declared.numbers.StageNo.{StageNo}
use Rattle.pipe_types.specs.declared.step.LateAnswer.TheVariants.{Records}
use Rattle.pipe_types.specs.declared.step.Step.{Step}
use Rattle.pipe_types.specs.declared.step.Step.TheVariants.{Accept, Late}
use Rattle.pipe_types.specs.declared.topology.Rate.{Rate}
use Rattle.pipe_types.specs.declared.topology.Role.{Role}
use Rattle.pipe_types.specs.declared.topology.Role.TheVariants.{Producer, Processor, Supervisor, Batcher, BatchProcessor}
use Rattle.pipe_types.specs.declared.topology.StageSpec.{StageSpec}
use Rattle.pipe_types.specs.declared.topology.Topology.{Topology}
use Rattle.pipe_model.specs.History.{History, incarnation}
use Rattle.pipe_model.specs.Lives.{is_live}
use Rattle.pipe_model.specs.Posts.{is_out, out_from}
use Rattle.pipe_model.specs.Legal.{allows, are_records, fetch_out, has_role, is_current, is_legal, is_producer_role, late_fits}
use Rattle.pipe_laws.proofs.Allowed.{legal_before, legal_step, unowed}
use Rattle.pipe_laws.proofs.Tests.{and_left, and_right, clash, same_stage-true}
use Rattle.stage_laws.proofs.Numbering.{numbered_topology}
use Rattle.rate_laws.specs.Rates.{KeepsRate, KeepsShares, came_by, came_in, fetched_at, interval_of, share_of}
use Rattle.rate_laws.proofs.Sums.{shares_make, total, total_one, total_same, total_zero}
use Rattle.rate_laws.proofs.Places.{place_is}

-- ---- who brings records

producer_of : (r : Role) → is_producer_role r ≡ true → is_producer r ≡ true
producer_of Producer e = refl
producer_of Processor e = e
producer_of Supervisor e = e
producer_of Batcher e = e
producer_of BatchProcessor e = e

accept_role : (topology : Topology) (before : History) (s : StageNo) (records : List (List ℕ)) → allows topology before (Accept s records) ≡ true → has_role topology s is_producer_role ≡ true
accept_role topology before s records h =
    let all = unowed topology before (Accept s records) (λ u. refl) (λ u. refl) h in
    and_left (has_role topology s is_producer_role) (is_current before s 0 && are_records records (fetch_out before s))
    (and_right (is_live topology before s) (has_role topology s is_producer_role && (is_current before s 0 && are_records records (fetch_out before s))) all)

late_role : (topology : Topology) (before : History) (s : StageNo) (slot i : ℕ) (records : List (List ℕ)) → allows topology before (Late s slot i (Records records)) ≡ true → has_role topology s is_producer_role ≡ true
late_role topology before s slot i records h =
    let all = unowed topology before (Late s slot i (Records records)) (λ u. refl) (λ u. refl) h in
    let fits : Bool = late_fits topology before s (Records records) in
    let old : Bool = not (is_live topology before s && incarnation before s == i) in
    let from : Bool = out_from before (post s slot) == i in
    and_left (has_role topology s is_producer_role) (are_records records (fetch_out before s))
    (and_right old fits (and_right from (old && fits) (and_right (is_out before (post s slot)) (from && (old && fits)) all)))

record IsProducer (topology : Topology) (s : StageNo) : Type 0 where
  pub spec : StageSpec
  pub found : spec_of topology s ≡ Some spec
  pub role : is_producer spec.role ≡ true

producer_is : (topology : Topology) (s : StageNo) → has_role topology s is_producer_role ≡ true → IsProducer topology s
producer_is topology s h = by (spec_of topology s) refl
  where
    by : (o : Option StageSpec) → spec_of topology s ≡ o → IsProducer topology s
    by None e = let none : has_role topology s is_producer_role ≡ false = rw e refl in clash (has_role topology s is_producer_role) h none
    by (Some spec) e =
        let same : has_role topology s is_producer_role ≡ is_producer_role spec.role = rw e refl in
        record { spec = spec; found = e; role = producer_of spec.role (sym same ∙ h) }

-- ---- one stage after another

off : (a : Bool) (y x : ℕ) → (if a && false then y + x else y) ≡ y
off true y x = refl
off false y x = refl

on : (a : Bool) (y x : ℕ) → a ≡ true → (if a && true then y + x else y) ≡ y + x
on true y x e = refl
on false y x e = cc

out : (a b : Bool) (y x : ℕ) → a ≡ false → (if a && b then y + x else y) ≡ y
out true b y x e = cc
out false b y x e = refl

-- what one stage brings is brought in all
split_one : (b : Bool) (n x old : ℕ) (f : ℕ → ℕ) (s : StageNo) → 1 ≤ s.0 → s.0 ≤ n → old ≡ total f n
    → (if b then old + x else old) ≡ total (λ k. if same_stage s (stage (suc k)) && b then f k + x else f k) n
split_one false n x old f s some within is =
    is ∙ sym (total_same f (λ k. if same_stage s (stage (suc k)) && false then f k + x else f k) n (λ k low. off (same_stage s (stage (suc k))) (f k) x))
split_one true n x old f s some within is =
    let at : ℕ = s.0 - 1 in
    let sum = total_one f (λ k. if same_stage s (stage (suc k)) && true then f k + x else f k) n at x (omega (arith, some, within))
    (on (same_stage s (stage (suc at))) (f at) x (eq-eqb s.0 (suc at) (omega (arith, some))))
    (λ k other. out (same_stage s (stage (suc k))) true (f k) x (ne_eqb s.0 (suc k) (λ same. other (omega (arith, same)))))
    in
    omega (arith, is, sum)

came_split : (topology : Topology) (interval i : ℕ) (before : History) → IsSound topology → is_legal topology before ≡ true
    → came_in interval i before ≡ total (λ k. came_by (stage (suc k)) interval i before) (length topology.stages)
came_split topology interval i [] sound h = sym (total_zero (length topology.stages))
came_split topology interval i (step ∷ before) sound h =
    by step (legal_step topology before step h) (came_split topology interval i before sound (legal_before topology before step h))
  where
    within : (s : StageNo) → has_role topology s is_producer_role ≡ true → (1 ≤ s.0) × (s.0 ≤ length topology.stages)
    within s role = let p = producer_is topology s role in (numbered_topology topology sound).within s p.spec p.found

    by : (step : Step) → allows topology before step ≡ true → came_in interval i before ≡ total (λ k. came_by (stage (suc k)) interval i before) (length topology.stages)
        → came_in interval i (step ∷ before) ≡ total (λ k. came_by (stage (suc k)) interval i (step ∷ before)) (length topology.stages)
    by (Accept s records) ok is =
        let low = within s (accept_role topology before s records ok) in
        split_one (interval_of interval (fetched_at before s) == i) (length topology.stages) (length records) (came_in interval i before) (λ k. came_by (stage (suc k)) interval i before) s low.0 low.1 is
    by (Late s slot j (Records records)) ok is =
        let low = within s (late_role topology before s slot j records ok) in
        split_one (interval_of interval (fetched_at before s) == i) (length topology.stages) (length records) (came_in interval i before) (λ k. came_by (stage (suc k)) interval i before) s low.0 low.1 is
    by _ ok is = is

-- ---- another stage brings nothing

not_mine : (a b : Bool) (y x : ℕ) → a ≡ false → y ≡ 0 → (if a && b then y + x else y) ≡ 0
not_mine a b y x e none = out a b y x e ∙ none

none_other : (topology : Topology) (before : History) (p : StageNo) (spec : StageSpec) (interval i : ℕ) → is_legal topology before ≡ true → spec_of topology p ≡ Some spec → is_producer spec.role ≡ false → came_by p interval i before ≡ 0
none_other topology [] p spec interval i h found other = refl
none_other topology (step ∷ before) p spec interval i h found other =
    by step (legal_step topology before step h) (none_other topology before p spec interval i (legal_before topology before step h) found other)
  where
    differs : (s : StageNo) → has_role topology s is_producer_role ≡ true → same_stage s p ≡ false
    differs s role = by_test (same_stage s p) refl
      where
        by_test : (b : Bool) → same_stage s p ≡ b → same_stage s p ≡ false
        by_test false e = e
        by_test true e =
            let mine = producer_is topology s role in
            let at : spec_of topology p ≡ Some mine.spec = subst (λ t. spec_of topology t ≡ Some mine.spec) (same_stage-true s p e) mine.found in
            let both : Some spec ≡ Some mine.spec = sym found ∙ at in
            let same : spec ≡ mine.spec = cc in
            clash (is_producer spec.role) (ap (λ (x : StageSpec). is_producer x.role) same ∙ mine.role) other

    by : (step : Step) → allows topology before step ≡ true → came_by p interval i before ≡ 0 → came_by p interval i (step ∷ before) ≡ 0
    by (Accept s records) ok none =
        not_mine (same_stage s p) (interval_of interval (fetched_at before s) == i) (came_by p interval i before) (length records) (differs s (accept_role topology before s records ok)) none
    by (Late s slot j (Records records)) ok none =
        not_mine (same_stage s p) (interval_of interval (fetched_at before s) == i) (came_by p interval i before) (length records) (differs s (late_role topology before s slot j records ok)) none
    by _ ok none = none

-- ---- the bound

some_stage : (stages : List StageSpec) (m : ℕ) → m < length stages → (x : StageSpec) × (slice_get stages m ≡ Some x) × (x ≡ get_or stages m x)
some_stage [] m low = absurd (omega (arith, low))
some_stage (s ∷ rest) zero low = (s, refl, refl)
some_stage (s ∷ rest) (suc m) low = some_stage rest m (omega (arith, low))

-- one stage more
bound_step : (topology : Topology) (rate : Rate) (before : History) (i m : ℕ) (spec : StageSpec) → IsSound topology → is_legal topology before ≡ true → KeepsShares topology rate before → slice_get topology.stages m ≡ Some spec
    → length (producers (take (suc m) topology.stages)) ≡ length (producers (take m topology.stages)) + cond (is_producer spec.role) 1 0
    → total (λ k. came_by (stage (suc k)) rate.interval i before) m ≤ total (λ k. share_of rate.allowed (length (producers topology.stages)) k) (length (producers (take m topology.stages)))
    → total (λ k. came_by (stage (suc k)) rate.interval i before) (suc m) ≤ total (λ k. share_of rate.allowed (length (producers topology.stages)) k) (length (producers (take (suc m) topology.stages)))
bound_step topology rate before i m spec sound h keeps here next earlier = by_role (is_producer spec.role) refl
  where
    share : ℕ → ℕ
    share k = share_of rate.allowed (length (producers topology.stages)) k

    mine : spec_of topology (stage (suc m)) ≡ Some spec
    mine =
        let numbered = numbered_topology topology sound in
        let no : spec.no ≡ stage (suc m) = ap stage (numbered.numbers m spec here) in
        subst (λ t. spec_of topology t ≡ Some spec) no (numbered.found m spec here)

    by_role : (b : Bool) → is_producer spec.role ≡ b
        → total (λ k. came_by (stage (suc k)) rate.interval i before) (suc m) ≤ total (λ k. share_of rate.allowed (length (producers topology.stages)) k) (length (producers (take (suc m) topology.stages)))
    by_role true e =
        let count : ℕ = length (producers (take m topology.stages)) in
        let place : spec.index ≡ count = place_is topology m spec sound here e in
        let own : came_by (stage (suc m)) rate.interval i before ≤ share count = subst (λ k. came_by (stage (suc m)) rate.interval i before ≤ share k) place (keeps (stage (suc m)) spec mine e i) in
        let plus : count + cond true 1 0 ≡ suc count = omega arith in
        let one : length (producers (take (suc m) topology.stages)) ≡ suc count = next ∙ ap (λ b. count + cond b 1 0) e ∙ plus in
        let more : total share (length (producers (take (suc m) topology.stages))) ≡ total share count + share count = ap (total share) one in
        let all : total (λ k. came_by (stage (suc k)) rate.interval i before) m + came_by (stage (suc m)) rate.interval i before ≤ total share count + share count = omega (arith, earlier, own) in
        subst (λ n. total (λ k. came_by (stage (suc k)) rate.interval i before) m + came_by (stage (suc m)) rate.interval i before ≤ n) (sym more) all
    by_role false e =
        let count : ℕ = length (producers (take m topology.stages)) in
        let none = none_other topology before (stage (suc m)) spec rate.interval i h mine e in
        let plus : count + cond false 1 0 ≡ count = omega arith in
        let same : length (producers (take (suc m) topology.stages)) ≡ count = next ∙ ap (λ b. count + cond b 1 0) e ∙ plus in
        let all : total (λ k. came_by (stage (suc k)) rate.interval i before) m + came_by (stage (suc m)) rate.interval i before ≤ total share count = omega (arith, earlier, none) in
        subst (λ n. total (λ k. came_by (stage (suc k)) rate.interval i before) m + came_by (stage (suc m)) rate.interval i before ≤ total share n) (sym same) all

-- the first stages bring no more than the shares of the producers among them
shares_bound : (topology : Topology) (rate : Rate) (before : History) (i : ℕ) (m : ℕ) → IsSound topology → is_legal topology before ≡ true → KeepsShares topology rate before → m ≤ length topology.stages
    → total (λ k. came_by (stage (suc k)) rate.interval i before) m ≤ total (λ k. share_of rate.allowed (length (producers topology.stages)) k) (length (producers (take m topology.stages)))
shares_bound topology rate before i zero sound h keeps low = omega arith
shares_bound topology rate before i (suc m) sound h keeps low =
    let within : m < length topology.stages = omega (arith, low) in
    let it = some_stage topology.stages m within in
    let more = length-filter_more (λ (s : StageSpec). is_producer s.role) topology.stages m it.0 within in
    let suc_is : m + 1 ≡ suc m = omega arith in
    let next : length (producers (take (suc m) topology.stages)) ≡ length (producers (take m topology.stages)) + cond (is_producer it.0.role) 1 0 =
    subst (λ k. length (producers (take k topology.stages)) ≡ length (producers (take m topology.stages)) + cond (is_producer it.0.role) 1 0) suc_is
    (more ∙ ap (λ (x : StageSpec). length (producers (take m topology.stages)) + cond (is_producer x.role) 1 0) (sym it.2))
    in
    bound_step topology rate before i m it.0 sound h keeps it.1 next (shares_bound topology rate before i m sound h keeps (omega (arith, low)))

-- where no interval brings more of a producer than its share, none brings more than is allowed
pub keeps_rate : (topology : Topology) (rate : Rate) (before : History) → IsSound topology → is_legal topology before ≡ true → 1 ≤ length (producers topology.stages) → KeepsShares topology rate before → KeepsRate rate before
keeps_rate topology rate before sound h some keeps = λ i.
    let n : ℕ = length topology.stages in
    let count : ℕ = length (producers topology.stages) in
    let split = came_split topology rate.interval i before sound h in
    let bound = shares_bound topology rate before i n sound h keeps (omega arith) in
    let all : take n topology.stages ≡ topology.stages = take_all n topology.stages (omega arith) in
    let bound' : total (λ k. came_by (stage (suc k)) rate.interval i before) n ≤ total (λ k. share_of rate.allowed count k) count =
    subst (λ xs. total (λ k. came_by (stage (suc k)) rate.interval i before) n ≤ total (λ k. share_of rate.allowed count k) (length (producers xs))) all bound
    in
    let make = shares_make rate.allowed count some in
    omega (arith, split, bound', make)
