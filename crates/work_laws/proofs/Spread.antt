-- Steps of a kind, spread over keys.
use Rattle.std.proofs.Common.{◌≡◌, ℕ, ◌+◌, ◌≤◌, List, [], ◌∷◌, Bool, true, false, refl, ap, if◌then◌else◌, arith}
use Rattle.pipe_types.specs.declared.topology.Topology.{Topology}
use Rattle.pipe_types.specs.declared.step.Step.{Step}
use Rattle.pipe_model.specs.History.{History}
use Rattle.pipe_model.specs.Counting.{as_number}
use Rattle.pipe_model.specs.Legal.{is_legal}
use Rattle.pipe_laws.proofs.Allowed.{legal_before}
use Rattle.pipe_laws.proofs.Lists.{weigh}
use Rattle.work_laws.specs.Work.{how_many}
use Rattle.work_laws.proofs.Keys.{Among, weigh_more, weigh_grows}

pub at_most_one : (b : Bool) → as_number b ≤ 1
at_most_one true = omega arith
at_most_one false = omega arith

pub no_less : (b : Bool) (n : ℕ) → n ≤ (if b then n + 1 else n)
no_less true n = omega arith
no_less false n = omega arith

-- the step counts for one of the keys
pub record Counted {K : Type 0} (f : History → K → ℕ) (keys : List K) (before : History) (step : Step) : Type 0 where
  pub key : K
  pub there : Among key keys
  pub more : f before key + 1 ≤ f (step ∷ before) key

-- each step of the kind counts for a key, and no step lowers a count
pub record Spreads {K : Type 0} (topology : Topology) (test : Step → Bool) (f : History → K → ℕ) (keys : List K) : Type 0 where
  pub grows : (before : History) (step : Step) (k : K) → f before k ≤ f (step ∷ before) k
  pub counts : (before : History) (step : Step) → is_legal topology (step ∷ before) ≡ true → test step ≡ true → Counted f keys before step

pub spread : {K : Type 0} (topology : Topology) (test : Step → Bool) (f : History → K → ℕ) (keys : List K) → Spreads topology test f keys → (before : History) → is_legal topology before ≡ true → how_many test before ≤ weigh (f before) keys
spread topology test f keys h [] legal = omega arith
spread topology test f keys h (step ∷ before) legal = either (test step) refl (spread topology test f keys h before (legal_before topology before step legal))
  where
    either : (b : Bool) → test step ≡ b → how_many test before ≤ weigh (f before) keys → as_number b + how_many test before ≤ weigh (f (step ∷ before)) keys
    either true e old =
        let at = h.counts before step legal e in
        let now : weigh (f before) keys + 1 ≤ weigh (f (step ∷ before)) keys = weigh_more (f before) (f (step ∷ before)) at.key keys (λ k. h.grows before step k) at.more at.there in
        omega (arith, old, now)
    either false e old =
        let now : weigh (f before) keys ≤ weigh (f (step ∷ before)) keys = weigh_grows (f before) (f (step ∷ before)) keys (λ k. h.grows before step k) in
        omega (arith, old, now)

-- what a test with a key counts
pub how_many_grows : (test : Step → Bool) (before : History) (step : Step) → how_many test before ≤ how_many test (step ∷ before)
how_many_grows test before step = omega arith

pub how_many_more : (test : Step → Bool) (before : History) (step : Step) → test step ≡ true → how_many test before + 1 ≤ how_many test (step ∷ before)
how_many_more test before step e = let one : as_number (test step) ≡ 1 = ap as_number e in omega (arith, one)

-- a kind within another has no more steps
pub how_many_less : (one other : Step → Bool) → ((step : Step) → one step ≡ true → other step ≡ true) → (before : History) → how_many one before ≤ how_many other before
how_many_less one other f [] = omega arith
how_many_less one other f (step ∷ before) = either (one step) refl (how_many_less one other f before)
  where
    either : (b : Bool) → one step ≡ b → how_many one before ≤ how_many other before → as_number b + how_many one before ≤ as_number (other step) + how_many other before
    either true e old = let now : as_number (other step) ≡ 1 = ap as_number (f step e) in omega (arith, old, now)
    either false e old = omega (arith, old)
