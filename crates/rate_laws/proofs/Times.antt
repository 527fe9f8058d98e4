-- Laws of the moments of fetches.
use Rattle.std.proofs.Common.{◌≡◌, ℕ, ◌+◌, ◌/◌, ◌<◌, ◌≤◌, ◌==◌, ◌&&◌, Bool, true, false, if◌then◌else◌, [], ◌∷◌, length, arith, refl, sym, subst}
use Rattle.std.proofs.lemmas.Bool.{eqb-true, leb-true}
use Rattle.std.proofs.lemmas.Nat.{le-div}
use Rattle.pipe_types.specs.Numbers.{same_stage}
use Rattle.pipe_types.specs.declared.numbers.StageNo.{StageNo}
use Rattle.pipe_types.specs.declared.step.LateAnswer.TheVariants.{Records}
use Rattle.pipe_types.specs.declared.step.Step.{Step}
use Rattle.pipe_types.specs.declared.step.Step.TheVariants.{Fetch, Accept, Late, Tick}
use Rattle.pipe_types.specs.declared.topology.Topology.{Topology}
use Rattle.pipe_model.specs.History.{History, now}
use Rattle.pipe_model.specs.Legal.{allows, is_legal}
use Rattle.pipe_laws.proofs.Allowed.{legal_before, legal_step, unowed}
use Rattle.pipe_laws.proofs.Tests.{same_stage-true}
use Rattle.rate_laws.specs.Rates.{came_by, fetched_at, interval_of}

either : (P : ℕ → Type 0) (b : Bool) (x y : ℕ) → P x → P y → P (if b then x else y)
either P true x y p q = p
either P false x y p q = q

-- time does not run back
pub now_grows : (topology : Topology) (before : History) (step : Step) → allows topology before step ≡ true → now before ≤ now (step ∷ before)
now_grows topology before (Tick t) h = leb-true (now before) t (unowed topology before (Tick t) (λ s. refl) (λ s. refl) h)
now_grows topology before _ h = omega arith

fetched_low : (step : Step) (before : History) (s : StageNo) → fetched_at before s ≤ now before → fetched_at (step ∷ before) s ≤ now before
fetched_low (Fetch t n) before s h = either (λ x. x ≤ now before) (same_stage s t) (now before) (fetched_at before s) (omega arith) h
fetched_low _ before s h = h

-- no fetch was made later than now
pub fetched_by_now : (topology : Topology) (before : History) (s : StageNo) → is_legal topology before ≡ true → fetched_at before s ≤ now before
fetched_by_now topology [] s h = omega arith
fetched_by_now topology (step ∷ before) s h =
    let earlier = fetched_low step before s (fetched_by_now topology before s (legal_before topology before step h)) in
    let later = now_grows topology before step (legal_step topology before step h) in
    omega (arith, earlier, later)

-- the moment of the last fetch does not run back
pub fetched_grows : (step : Step) (before : History) (s : StageNo) → fetched_at before s ≤ now before → fetched_at before s ≤ fetched_at (step ∷ before) s
fetched_grows (Fetch t n) before s h = either (λ x. fetched_at before s ≤ x) (same_stage s t) (now before) (fetched_at before s) h (omega arith)
fetched_grows _ before s h = omega arith

-- ---- intervals

pub later_interval : (interval a b : ℕ) → 0 < interval → a ≤ b → interval_of interval a ≤ interval_of interval b
later_interval interval a b some le = le-div (a / interval) b interval some (omega (arith, some, le))

came_none : (p s : StageNo) (moment interval i old more : ℕ) → (same_stage s p ≡ true → interval_of interval moment < i) → old ≡ 0 → (if same_stage s p && interval_of interval moment == i then old + more else old) ≡ 0
came_none p s moment interval i old more below none = by (same_stage s p) (interval_of interval moment == i) refl refl
  where
    by : (a b : Bool) → same_stage s p ≡ a → (interval_of interval moment == i) ≡ b → (if a && b then old + more else old) ≡ 0
    by true true e f = let low = below e in let is = eqb-true (interval_of interval moment) i f in absurd (omega (arith, low, is))
    by true false e f = none
    by false b e f = none

-- nothing came in an interval behind that of the last fetch
pub none_later : (topology : Topology) (before : History) (p : StageNo) (interval i : ℕ) → is_legal topology before ≡ true → 0 < interval → interval_of interval (fetched_at before p) < i → came_by p interval i before ≡ 0
none_later topology [] p interval i h some later = refl
none_later topology (step ∷ before) p interval i h some later =
    let legal = legal_before topology before step h in
    let grows = fetched_grows step before p (fetched_by_now topology before p legal) in
    let low = later_interval interval (fetched_at before p) (fetched_at (step ∷ before) p) some grows in
    let behind : interval_of interval (fetched_at before p) < i = omega (arith, low, later) in
    by step behind (none_later topology before p interval i legal some behind)
  where
    at : (s : StageNo) → interval_of interval (fetched_at before p) < i → same_stage s p ≡ true → interval_of interval (fetched_at before s) < i
    at s behind same = subst (λ t. interval_of interval (fetched_at before t) < i) (sym (same_stage-true s p same)) behind

    by : (step : Step) → interval_of interval (fetched_at before p) < i → came_by p interval i before ≡ 0 → came_by p interval i (step ∷ before) ≡ 0
    by (Accept s records) behind none = came_none p s (fetched_at before s) interval i (came_by p interval i before) (length records) (at s behind) none
    by (Late s slot j (Records records)) behind none = came_none p s (fetched_at before s) interval i (came_by p interval i before) (length records) (at s behind) none
    by _ behind none = none
