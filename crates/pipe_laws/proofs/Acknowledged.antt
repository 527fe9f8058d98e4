-- An acknowledged message stands once among the acknowledgements, under its producer and on the side of its outcome.
use Rattle.std.proofs.Common.{◌≡◌, ℕ, zero, suc, ◌+◌, ◌<◌, ◌≤◌, List, [], ◌∷◌, ◌++◌, length, Bool, true, false, refl, ap, sym, ◌∙◌, subst, Some, None, Option, inl, inr, arith}
use Rattle.std.specs.Prelude.{if◌then◌else◌, not, ◌==◌, ◌&&◌, is_some, cond, filter, count_by, ◌⊎◌}
use Rattle.std.specs.List.{flat_map}
use Rattle.std.proofs.lemmas.Bool.{eqb-true, eq-eqb, ne_eqb, cases_eq, cases_lt, false_from_ne_true}
use Rattle.std.proofs.lemmas.List.Sums.{sum_by-cons}
use Rattle.std.proofs.lemmas.List.Elements.{filter-append}
use Rattle.pipe_types.specs.declared.numbers.StageNo.{StageNo}
use Rattle.pipe_types.specs.declared.topology.Topology.{Topology}
use Rattle.pipe_types.specs.declared.topology.StageSpec.{StageSpec}
use Rattle.pipe_types.specs.declared.message.Outcome.{Outcome}
use Rattle.pipe_types.specs.declared.message.Outcome.TheVariants.{Successful, Failed}
use Rattle.pipe_types.specs.declared.message.Place.{Place}
use Rattle.pipe_types.specs.declared.message.Place.TheVariants.{Acked}
use Rattle.pipe_types.specs.declared.step.Step.{Step}
use Rattle.pipe_types.specs.declared.step.Step.TheVariants.{Accept, Late}
use Rattle.pipe_types.specs.declared.step.LateAnswer.TheVariants.{Records}
use Rattle.pipe_types.specs.Numbers.{same_stage}
use Rattle.pipe_types.specs.Stages.{spec_in, spec_of}
use Rattle.pipe_types.specs.Sound.{IsSound}
use Rattle.pipe_model.specs.History.{History, accepted}
use Rattle.pipe_model.specs.Content.{producer_of, is_among_next}
use Rattle.pipe_model.specs.Flow.{place}
use Rattle.pipe_model.specs.Legal.{is_legal, has_role, is_producer_role}
use Rattle.pipe_model.specs.Acknowledgements.{Acknowledgement, acknowledgements, acknowledged_by, settled_by, entry, numbers_upto, is_acked, is_acked_successful, is_acked_failed, is_producer}
use Rattle.pipe_model.specs.Claims.{IsAcknowledgedOnce, times_on, times_in_all, side_of, both_sides}
use Rattle.pipe_laws.proofs.Tests.{clash, and_left, and_right, same_stage-true, same_stage-self, same_stage-flip}
use Rattle.pipe_laws.proofs.Lists.{weigh, weigh-append}
use Rattle.pipe_laws.proofs.Numbers.{AscendFrom}
use Rattle.pipe_laws.proofs.Sounds.{sound_ascends}
use Rattle.pipe_laws.proofs.Settled.{acked_stays}
use Rattle.pipe_laws.proofs.Accepted.{placed_accepted, among_next, next_among}
use Rattle.pipe_laws.proofs.Allowed.{legal_before, legal_step, accept_role, late_facts}
use Rattle.pipe_laws.proofs.Held.{role_known}
use Rattle.pipe_model.specs.Counting.{as_number}

-- Counting

-- how often the number stands in the list
abbrev occurs : ℕ → List ℕ → ℕ
occurs n xs = weigh (λ m. as_number (m == n)) xs

count_occurs : (n : ℕ) (xs : List ℕ) → count_by (λ m. m == n) xs ≡ occurs n xs
count_occurs n [] = refl
count_occurs n (x ∷ xs) =
    let step : count_by (λ m. m == n) (x ∷ xs) ≡ cond (x == n) 1 0 + count_by (λ m. m == n) xs = sum_by-cons (λ m. cond (m == n) 1 0) x xs in
    let rest : count_by (λ m. m == n) xs ≡ occurs n xs = count_occurs n xs in
    let one : cond (x == n) 1 0 ≡ as_number (x == n) = by_bool (x == n) in
    omega arith
  where
    by_bool : (b : Bool) → cond b 1 0 ≡ as_number b
    by_bool true = refl
    by_bool false = refl

occurs_flat : {A : Type 0} (n : ℕ) (f : A → List ℕ) (xs : List A) → occurs n (flat_map f xs) ≡ weigh (λ x. occurs n (f x)) xs
occurs_flat n f [] = refl
occurs_flat n f (x ∷ xs) =
    let rest : occurs n (flat_map f xs) ≡ weigh (λ y. occurs n (f y)) xs = occurs_flat n f xs in
    let parts : occurs n (f x ++ flat_map f xs) ≡ occurs n (f x) + occurs n (flat_map f xs) = weigh-append (λ m. as_number (m == n)) (f x) (flat_map f xs) in
    omega arith

weigh_flat : {A B : Type 0} (g : B → ℕ) (f : A → List B) (xs : List A) → weigh g (flat_map f xs) ≡ weigh (λ x. weigh g (f x)) xs
weigh_flat g f [] = refl
weigh_flat g f (x ∷ xs) =
    let rest : weigh g (flat_map f xs) ≡ weigh (λ y. weigh g (f y)) xs = weigh_flat g f xs in
    let parts : weigh g (f x ++ flat_map f xs) ≡ weigh g (f x) + weigh g (flat_map f xs) = weigh-append g (f x) (flat_map f xs) in
    omega arith

weigh_same : {A : Type 0} (f g : A → ℕ) → ((x : A) → f x ≡ g x) → (xs : List A) → weigh f xs ≡ weigh g xs
weigh_same f g e [] = refl
weigh_same f g e (x ∷ xs) = omega (arith, e x, weigh_same f g e xs)

weigh_none : {A : Type 0} (f : A → ℕ) → ((x : A) → f x ≡ 0) → (xs : List A) → weigh f xs ≡ 0
weigh_none f e [] = refl
weigh_none f e (x ∷ xs) = omega (arith, e x, weigh_none f e xs)

weigh_sum : {A : Type 0} (f g : A → ℕ) (xs : List A) → weigh (λ x. f x + g x) xs ≡ weigh f xs + weigh g xs
weigh_sum f g [] = refl
weigh_sum f g (x ∷ xs) = omega (arith, weigh_sum f g xs)

-- a number that fails the test is not kept
occurs_failing : (t : ℕ → Bool) (n : ℕ) (xs : List ℕ) → t n ≡ false → occurs n (filter t xs) ≡ 0
occurs_failing t n [] h = refl
occurs_failing t n (x ∷ xs) h = either (t x) refl (occurs_failing t n xs h)
  where
    other : t x ≡ true → (x == n) ≡ false
    other e = false_from_ne_true (x == n) (λ same. clash (t x) e (ap t (eqb-true x n same) ∙ h))

    either : (b : Bool) → t x ≡ b → occurs n (filter t xs) ≡ 0 → occurs n (cond b (x ∷ filter t xs) (filter t xs)) ≡ 0
    either true e rest = let none : as_number (x == n) ≡ 0 = ap as_number (other e) in omega arith
    either false e rest = rest

last_kept : (t : ℕ → Bool) (m n : ℕ) → t m ≡ true → occurs n (filter t (m ∷ [])) ≡ as_number (m == n)
last_kept t m n h = rw h (omega arith)

last_other : (t : ℕ → Bool) (m n : ℕ) → (m == n) ≡ false → occurs n (filter t (m ∷ [])) ≡ 0
last_other t m n h = either (t m)
  where
    either : (b : Bool) → occurs n (cond b (m ∷ []) []) ≡ 0
    either true = let none : as_number (m == n) ≡ 0 = ap as_number h in omega arith
    either false = refl

occurs_above : (t : ℕ → Bool) (k n : ℕ) → k < n → occurs n (filter t (numbers_upto k)) ≡ 0
occurs_above t zero n h = refl
occurs_above t (suc k) n h =
    let apart : (suc k == n) ≡ false = ne_eqb (suc k) n (λ e. omega arith) in
    let last : occurs n (filter t (suc k ∷ [])) ≡ 0 = last_other t (suc k) n apart in
    let front : occurs n (filter t (numbers_upto k)) ≡ 0 = occurs_above t k n (omega arith) in
    let parts : occurs n (filter t (numbers_upto k ++ suc k ∷ [])) ≡ occurs n (filter t (numbers_upto k)) + occurs n (filter t (suc k ∷ [])) =
    ap (occurs n) (filter-append t (numbers_upto k) (suc k ∷ [])) ∙ weigh-append (λ m. as_number (m == n)) (filter t (numbers_upto k)) (filter t (suc k ∷ [])) in
    omega arith

-- one that passes is kept once
occurs_passing : (t : ℕ → Bool) (k n : ℕ) → 1 ≤ n → n ≤ k → t n ≡ true → occurs n (filter t (numbers_upto k)) ≡ 1
occurs_passing t zero n low high h = absurd (omega arith)
occurs_passing t (suc k) n low high h = either (cases_eq n (suc k)) (λ less. occurs_passing t k n low less h)
  where
    parts : occurs n (filter t (numbers_upto k ++ suc k ∷ [])) ≡ occurs n (filter t (numbers_upto k)) + occurs n (filter t (suc k ∷ []))
    parts = ap (occurs n) (filter-append t (numbers_upto k) (suc k ∷ [])) ∙ weigh-append (λ m. as_number (m == n)) (filter t (numbers_upto k)) (filter t (suc k ∷ []))

    either : (n ≡ suc k) ⊎ (n ≡ suc k → ⊥) → (n ≤ k → occurs n (filter t (numbers_upto k)) ≡ 1) → occurs n (filter t (numbers_upto k ++ suc k ∷ [])) ≡ 1
    either (inl e) rest =
        let front : occurs n (filter t (numbers_upto k)) ≡ 0 = occurs_above t k n (omega arith) in
        let last : occurs n (filter t (suc k ∷ [])) ≡ 1 = last_kept t (suc k) n (ap t (sym e) ∙ h) ∙ ap as_number (eq-eqb (suc k) n (sym e)) in
        omega (arith, parts)
    either (inr other) rest =
        let front : occurs n (filter t (numbers_upto k)) ≡ 1 = rest (omega arith) in
        let last : occurs n (filter t (suc k ∷ [])) ≡ 0 = last_other t (suc k) n (ne_eqb (suc k) n (λ e. other (sym e))) in
        omega (arith, parts)

-- Stages

stage_none : (q : StageNo) (x : Bool) (low : ℕ) (specs : List StageSpec) → AscendFrom low specs → q.0 ≤ low → weigh (λ spec. as_number (same_stage q spec.no && x)) specs ≡ 0
stage_none q x low [] h le = refl
stage_none q x low (spec ∷ specs) h le =
    let rest : weigh (λ s. as_number (same_stage q s.no && x)) specs ≡ 0 = stage_none q x spec.no.0 specs h.1 (omega (arith, h.0)) in
    let apart : same_stage q spec.no ≡ false = ne_eqb q.0 spec.no.0 (λ e. omega (arith, h.0)) in
    let none : as_number (same_stage q spec.no && x) ≡ 0 = ap (λ b. as_number (b && x)) apart in
    omega arith

-- a stage of the topology counts once
stage_once : (q : StageNo) (x : Bool) (low : ℕ) (specs : List StageSpec) → AscendFrom low specs → is_some (spec_in specs q) ≡ true → weigh (λ spec. as_number (same_stage q spec.no && x)) specs ≡ as_number x
stage_once q x low [] h found = cc
stage_once q x low (spec ∷ specs) h found = either (same_stage spec.no q) refl found (stage_once q x spec.no.0 specs h.1)
  where
    either : (b : Bool) → same_stage spec.no q ≡ b → is_some (cond b (Some spec) (spec_in specs q)) ≡ true → (is_some (spec_in specs q) ≡ true → weigh (λ s. as_number (same_stage q s.no && x)) specs ≡ as_number x) → as_number (same_stage q spec.no && x) + weigh (λ s. as_number (same_stage q s.no && x)) specs ≡ as_number x
    either true e found rest =
        let is : spec.no.0 ≡ q.0 = eqb-true spec.no.0 q.0 e in
        let none : weigh (λ s. as_number (same_stage q s.no && x)) specs ≡ 0 = stage_none q x spec.no.0 specs h.1 (omega arith) in
        let one : as_number (same_stage q spec.no && x) ≡ as_number x = ap (λ b. as_number (b && x)) (same_stage-flip spec.no q e) in
        omega arith
    either false e found rest =
        let apart : same_stage q spec.no ≡ false = false_from_ne_true (same_stage q spec.no) (λ s. clash (same_stage spec.no q) (same_stage-flip q spec.no s) e) in
        let none : as_number (same_stage q spec.no && x) ≡ 0 = ap (λ b. as_number (b && x)) apart in
        let some : weigh (λ s. as_number (same_stage q s.no && x)) specs ≡ as_number x = rest found in
        omega arith

-- Producers

early : (from count n : ℕ) → n ≤ from + count → is_among_next from count n ≡ false → n ≤ from
early from count n high e = either (cases_lt from n)
  where
    either : (from < n) ⊎ (n ≤ from) → n ≤ from
    either (inl low) = clash (is_among_next from count n) (next_among from count n low high) e
    either (inr le) = le

not_next : (from count n : ℕ) → n ≤ from → is_among_next from count n ≡ false
not_next from count n low = false_from_ne_true (is_among_next from count n) (λ h. absurd (let t = among_next from count n h in omega (arith, t.0)))

-- every accepted message was taken in by a stage of the topology
pub produced : (topology : Topology) (before : History) (n : ℕ) → is_legal topology before ≡ true → 1 ≤ n → n ≤ accepted before → (q : StageNo) × (producer_of before n ≡ Some q) × (is_some (spec_of topology q) ≡ true)
produced topology [] n h low high = absurd (omega arith)
produced topology (Accept s records ∷ before) n h low high =
    either (is_among_next (accepted before) (length records) n) refl (λ less. produced topology before n (legal_before topology before (Accept s records) h) low less)
  where
    either : (b : Bool) → is_among_next (accepted before) (length records) n ≡ b → (n ≤ accepted before → (q : StageNo) × (producer_of before n ≡ Some q) × (is_some (spec_of topology q) ≡ true)) → (q : StageNo) × ((if b then Some s else producer_of before n) ≡ Some q) × (is_some (spec_of topology q) ≡ true)
    either true e rest = (s, refl, role_known topology s is_producer_role (accept_role topology before s records (legal_step topology before (Accept s records) h)))
    either false e rest = rest (early (accepted before) (length records) n high e)
produced topology (Late s slot i (Records records) ∷ before) n h low high =
    either (is_among_next (accepted before) (length records) n) refl (λ less. produced topology before n (legal_before topology before (Late s slot i (Records records)) h) low less)
  where
    either : (b : Bool) → is_among_next (accepted before) (length records) n ≡ b → (n ≤ accepted before → (q : StageNo) × (producer_of before n ≡ Some q) × (is_some (spec_of topology q) ≡ true)) → (q : StageNo) × ((if b then Some s else producer_of before n) ≡ Some q) × (is_some (spec_of topology q) ≡ true)
    either true e rest = (s, refl, role_known topology s is_producer_role (and_left (has_role topology s is_producer_role) _ (late_facts topology before s slot i (Records records) (legal_step topology before (Late s slot i (Records records)) h)).fits))
    either false e rest = rest (early (accepted before) (length records) n high e)
produced topology (step ∷ before) n h low high = produced topology before n (legal_before topology before step h) low high

-- an accepted message keeps its producer
pub same_producer : (before : History) (step : Step) (n : ℕ) → n ≤ accepted before → producer_of (step ∷ before) n ≡ producer_of before n
same_producer before (Accept s records) n low = rw (not_next (accepted before) (length records) n low) refl
same_producer before (Late s slot i (Records records)) n low = rw (not_next (accepted before) (length records) n low) refl
same_producer before _ n low = refl

and_false : (b : Bool) → as_number (b && false) ≡ 0
and_false true = refl
and_false false = refl

-- what is on a side stands somewhere
some_side : (side : Option Place → Bool) → side None ≡ false → (p : Option Place) → side p ≡ true → is_some p ≡ true
some_side side none None h = clash (side None) h none
some_side side none (Some q) h = refl

-- One step

module _ (topology : Topology) (before : History) (step : Step) (n : ℕ) where
  -- the step acknowledges the message so
  abbrev newly : (Option Place → Bool) → Bool
  newly side = not (is_acked (place topology before n)) && side (place topology (step ∷ before) n)

  settled_count : (side : Option Place → Bool) (p : StageNo) → side None ≡ false → occurs n (settled_by topology before step p side) ≡ as_number (is_producer (producer_of (step ∷ before) n) p && newly side)
  settled_count side p none = either (is_producer (producer_of (step ∷ before) n) p && newly side) refl
    where
      either : (b : Bool) → (is_producer (producer_of (step ∷ before) n) p && newly side) ≡ b → occurs n (settled_by topology before step p side) ≡ as_number b
      either false e = occurs_failing (λ m. is_producer (producer_of (step ∷ before) m) p && (not (is_acked (place topology before m)) && side (place topology (step ∷ before) m))) n (numbers_upto (accepted (step ∷ before))) e
      either true e =
          let there : side (place topology (step ∷ before) n) ≡ true = and_right (not (is_acked (place topology before n))) _ (and_right (is_producer (producer_of (step ∷ before) n) p) _ e) in
          let range = placed_accepted topology (step ∷ before) n (some_side side none (place topology (step ∷ before) n) there) in
          occurs_passing (λ m. is_producer (producer_of (step ∷ before) m) p && (not (is_acked (place topology before m)) && side (place topology (step ∷ before) m))) (accepted (step ∷ before)) n range.0 range.1 e

  -- the producer of what is acknowledged is one stage of the topology
  producer_once : AscendFrom 0 topology.stages → is_legal topology (step ∷ before) ≡ true → (side : Option Place → Bool) → side None ≡ false → weigh (λ spec. as_number (is_producer (producer_of (step ∷ before) n) spec.no && newly side)) topology.stages ≡ as_number (newly side)
  producer_once ascend h side none = either (newly side) refl
    where
      either : (b : Bool) → newly side ≡ b → weigh (λ spec. as_number (is_producer (producer_of (step ∷ before) n) spec.no && b)) topology.stages ≡ as_number b
      either false e = weigh_none _ (λ spec. and_false (is_producer (producer_of (step ∷ before) n) spec.no)) topology.stages
      either true e =
          let range = placed_accepted topology (step ∷ before) n (some_side side none (place topology (step ∷ before) n) (and_right (not (is_acked (place topology before n))) _ e)) in
          let t = produced topology (step ∷ before) n h range.0 range.1 in
          subst (λ o. weigh (λ spec. as_number (is_producer o spec.no && true)) topology.stages ≡ 1) (sym t.1) (stage_once t.0 true 0 topology.stages ascend t.2)

  producer_there : AscendFrom 0 topology.stages → is_legal topology (step ∷ before) ≡ true → (side : Option Place → Bool) (p : StageNo) → side None ≡ false → weigh (λ spec. if same_stage spec.no p then as_number (is_producer (producer_of (step ∷ before) n) spec.no && newly side) else 0) topology.stages ≡ as_number (is_producer (producer_of (step ∷ before) n) p && newly side)
  producer_there ascend h side p none = either (newly side) refl
    where
      no_one : (a b : Bool) → (if a then as_number (b && false) else 0) ≡ 0
      no_one true true = refl
      no_one true false = refl
      no_one false b = refl

      agree : (q : StageNo) (spec : StageSpec) → (if same_stage spec.no p then as_number (same_stage q spec.no && true) else 0) ≡ as_number (same_stage q spec.no && same_stage q p)
      agree q spec = by_stage (same_stage q spec.no) refl
        where
          by_there : (b : Bool) → (if b then 1 else 0) ≡ as_number b
          by_there true = refl
          by_there false = refl

          by_other : (b : Bool) → (if b then as_number false else 0) ≡ 0
          by_other true = refl
          by_other false = refl

          by_stage : (a : Bool) → same_stage q spec.no ≡ a → (if same_stage spec.no p then as_number (a && true) else 0) ≡ as_number (a && same_stage q p)
          by_stage true e = by_there (same_stage spec.no p) ∙ ap (λ x. as_number (same_stage x p)) (sym (same_stage-true q spec.no e))
          by_stage false e = by_other (same_stage spec.no p)

      either : (b : Bool) → newly side ≡ b → weigh (λ spec. if same_stage spec.no p then as_number (is_producer (producer_of (step ∷ before) n) spec.no && b) else 0) topology.stages ≡ as_number (is_producer (producer_of (step ∷ before) n) p && b)
      either false e =
          weigh_none _ (λ spec. no_one (same_stage spec.no p) (is_producer (producer_of (step ∷ before) n) spec.no)) topology.stages
          ∙ sym (and_false (is_producer (producer_of (step ∷ before) n) p))
      either true e =
          let range = placed_accepted topology (step ∷ before) n (some_side side none (place topology (step ∷ before) n) (and_right (not (is_acked (place topology before n))) _ e)) in
          let t = produced topology (step ∷ before) n h range.0 range.1 in
          subst (λ o. weigh (λ spec. if same_stage spec.no p then as_number (is_producer o spec.no && true) else 0) topology.stages ≡ as_number (is_producer o p && true)) (sym t.1)
          (weigh_same _ (λ spec. as_number (same_stage t.0 spec.no && same_stage t.0 p)) (agree t.0) topology.stages
          ∙ (stage_once t.0 (same_stage t.0 p) 0 topology.stages ascend t.2 ∙ and_true (same_stage t.0 p)))
        where
          and_true : (b : Bool) → as_number b ≡ as_number (b && true)
          and_true true = refl
          and_true false = refl

  -- what the step adds in all
  both_sides_of : (p : StageNo) (s f : List ℕ) → weigh (λ a. occurs n (both_sides a)) (entry p s f) ≡ occurs n s + occurs n f
  both_sides_of p [] [] = refl
  both_sides_of p [] (m ∷ f) = omega arith
  both_sides_of p (m ∷ s) f = omega (arith, weigh-append (λ k. as_number (k == n)) (m ∷ s) f)

  added_in_all : AscendFrom 0 topology.stages → is_legal topology (step ∷ before) ≡ true → weigh (λ a. occurs n (both_sides a)) (acknowledged_by topology before step) ≡ as_number (newly is_acked_successful) + as_number (newly is_acked_failed)
  added_in_all ascend h =
      let flat : weigh (λ a. occurs n (both_sides a)) (acknowledged_by topology before step) ≡ weigh (λ spec. weigh (λ a. occurs n (both_sides a)) (entry spec.no (settled_by topology before step spec.no is_acked_successful) (settled_by topology before step spec.no is_acked_failed))) topology.stages = weigh_flat (λ a. occurs n (both_sides a)) _ topology.stages in
      let each : weigh (λ spec. weigh (λ a. occurs n (both_sides a)) (entry spec.no (settled_by topology before step spec.no is_acked_successful) (settled_by topology before step spec.no is_acked_failed))) topology.stages ≡ weigh (λ spec. as_number (is_producer (producer_of (step ∷ before) n) spec.no && newly is_acked_successful) + as_number (is_producer (producer_of (step ∷ before) n) spec.no && newly is_acked_failed)) topology.stages =
      weigh_same _ _ (λ spec. both_sides_of spec.no _ _ ∙ (let a = settled_count is_acked_successful spec.no refl in let b = settled_count is_acked_failed spec.no refl in λ i. a i + b i)) topology.stages in
      let split : weigh (λ spec. as_number (is_producer (producer_of (step ∷ before) n) spec.no && newly is_acked_successful) + as_number (is_producer (producer_of (step ∷ before) n) spec.no && newly is_acked_failed)) topology.stages ≡ weigh (λ spec. as_number (is_producer (producer_of (step ∷ before) n) spec.no && newly is_acked_successful)) topology.stages + weigh (λ spec. as_number (is_producer (producer_of (step ∷ before) n) spec.no && newly is_acked_failed)) topology.stages = weigh_sum _ _ topology.stages in
      omega (arith, producer_once ascend h is_acked_successful refl, producer_once ascend h is_acked_failed refl)

  -- what it adds on one side
  one_side_of : (side : Acknowledgement → List ℕ) (chosen : List ℕ → List ℕ → List ℕ) → ((q : StageNo) (s f : List ℕ) → side (record { producer = q; successful = s; failed = f }) ≡ chosen s f) → chosen [] [] ≡ [] → (p q : StageNo) (s f : List ℕ) → weigh (λ a. occurs n (side_of side p a)) (entry q s f) ≡ (if same_stage q p then occurs n (chosen s f) else 0)
  one_side_of side chosen is none p q [] [] = by_bool (same_stage q p)
    where
      by_bool : (b : Bool) → 0 ≡ (if b then occurs n (chosen [] []) else 0)
      by_bool true = ap (occurs n) (sym none)
      by_bool false = refl
  one_side_of side chosen is none p q [] (m ∷ f) = by_bool (same_stage q p)
    where
      by_bool : (b : Bool) → occurs n (if b then side (record { producer = q; successful = []; failed = m ∷ f }) else []) + 0 ≡ (if b then occurs n (chosen [] (m ∷ f)) else 0)
      by_bool true = let e : occurs n (side (record { producer = q; successful = []; failed = m ∷ f })) ≡ occurs n (chosen [] (m ∷ f)) = ap (occurs n) (is q [] (m ∷ f)) in omega arith
      by_bool false = refl
  one_side_of side chosen is none p q (m ∷ s) f = by_bool (same_stage q p)
    where
      by_bool : (b : Bool) → occurs n (if b then side (record { producer = q; successful = m ∷ s; failed = f }) else []) + 0 ≡ (if b then occurs n (chosen (m ∷ s) f) else 0)
      by_bool true = let e : occurs n (side (record { producer = q; successful = m ∷ s; failed = f })) ≡ occurs n (chosen (m ∷ s) f) = ap (occurs n) (is q (m ∷ s) f) in omega arith
      by_bool false = refl

  added_successful : AscendFrom 0 topology.stages → is_legal topology (step ∷ before) ≡ true → (p : StageNo) → weigh (λ a. occurs n (side_of (λ b. b.successful) p a)) (acknowledged_by topology before step) ≡ as_number (is_producer (producer_of (step ∷ before) n) p && newly is_acked_successful)
  added_successful ascend h p =
      weigh_flat (λ a. occurs n (side_of (λ b. b.successful) p a)) _ topology.stages
      ∙ (weigh_same _ (λ spec. if same_stage spec.no p then as_number (is_producer (producer_of (step ∷ before) n) spec.no && newly is_acked_successful) else 0)
      (λ spec. one_side_of (λ b. b.successful) (λ s f. s) (λ q s f. refl) refl p spec.no _ _ ∙ ap (λ x. if same_stage spec.no p then x else 0) (settled_count is_acked_successful spec.no refl)) topology.stages
      ∙ producer_there ascend h is_acked_successful p refl)

  added_failed : AscendFrom 0 topology.stages → is_legal topology (step ∷ before) ≡ true → (p : StageNo) → weigh (λ a. occurs n (side_of (λ b. b.failed) p a)) (acknowledged_by topology before step) ≡ as_number (is_producer (producer_of (step ∷ before) n) p && newly is_acked_failed)
  added_failed ascend h p =
      weigh_flat (λ a. occurs n (side_of (λ b. b.failed) p a)) _ topology.stages
      ∙ (weigh_same _ (λ spec. if same_stage spec.no p then as_number (is_producer (producer_of (step ∷ before) n) spec.no && newly is_acked_failed) else 0)
      (λ spec. one_side_of (λ b. b.failed) (λ s f. f) (λ q s f. refl) refl p spec.no _ _ ∙ ap (λ x. if same_stage spec.no p then x else 0) (settled_count is_acked_failed spec.no refl)) topology.stages
      ∙ producer_there ascend h is_acked_failed p refl)

-- All steps

acked_place : (p : Option Place) → is_acked p ≡ true → (o : Outcome) × (p ≡ Some (Acked o))
acked_place (Some (Acked o)) h = (o, refl)
acked_place _ h = cc

-- an acknowledged message is so with the same outcome after a step
acked_same : (topology : Topology) (before : History) (step : Step) (n : ℕ) → is_acked (place topology before n) ≡ true → place topology (step ∷ before) n ≡ place topology before n
acked_same topology before step n h =
    let t = acked_place (place topology before n) h in
    acked_stays topology (step ∷ []) before n t.0 t.1 ∙ sym t.1

two_sides : (p : Option Place) → as_number (is_acked_successful p) + as_number (is_acked_failed p) ≡ as_number (is_acked p)
two_sides (Some (Acked Successful)) = refl
two_sides _ = refl

in_all : (topology : Topology) (before : History) (n : ℕ) → AscendFrom 0 topology.stages → is_legal topology before ≡ true → weigh (λ a. occurs n (both_sides a)) (acknowledgements topology before) ≡ as_number (is_acked (place topology before n))
in_all topology [] n ascend h = refl
in_all topology (step ∷ before) n ascend h =
    let parts : weigh (λ a. occurs n (both_sides a)) (acknowledgements topology before ++ acknowledged_by topology before step) ≡ weigh (λ a. occurs n (both_sides a)) (acknowledgements topology before) + weigh (λ a. occurs n (both_sides a)) (acknowledged_by topology before step) = weigh-append (λ a. occurs n (both_sides a)) (acknowledgements topology before) (acknowledged_by topology before step) in
    let old : weigh (λ a. occurs n (both_sides a)) (acknowledgements topology before) ≡ as_number (is_acked (place topology before n)) = in_all topology before n ascend (legal_before topology before step h) in
    parts ∙ ((λ i. old i + added_in_all topology before step n ascend h i) ∙ either (is_acked (place topology before n)) refl)
  where
    either : (b : Bool) → is_acked (place topology before n) ≡ b → as_number b + (as_number (not b && is_acked_successful (place topology (step ∷ before) n)) + as_number (not b && is_acked_failed (place topology (step ∷ before) n))) ≡ as_number (is_acked (place topology (step ∷ before) n))
    either true e = sym (ap as_number (ap is_acked (acked_same topology before step n e) ∙ e))
    either false e = omega (arith, two_sides (place topology (step ∷ before) n))

-- an acknowledged message has its producer already
acked_producer : (topology : Topology) (before : History) (step : Step) (n : ℕ) → is_acked (place topology before n) ≡ true → producer_of (step ∷ before) n ≡ producer_of before n
acked_producer topology before step n h =
    let t = acked_place (place topology before n) h in
    same_producer before step n (placed_accepted topology before n (ap is_some t.1)).1

on_side : (topology : Topology) (side : Acknowledgement → List ℕ) (test : Option Place → Bool) (p : StageNo) (n : ℕ) → test None ≡ false → ((o : Option Place) → is_acked o ≡ false → test o ≡ false) → ((before : History) (step : Step) → is_legal topology (step ∷ before) ≡ true → weigh (λ a. occurs n (side_of side p a)) (acknowledged_by topology before step) ≡ as_number (is_producer (producer_of (step ∷ before) n) p && (not (is_acked (place topology before n)) && test (place topology (step ∷ before) n)))) → (before : History) → is_legal topology before ≡ true → weigh (λ a. occurs n (side_of side p a)) (acknowledgements topology before) ≡ as_number (is_producer (producer_of before n) p && test (place topology before n))
on_side topology side test p n none acks adds [] h = refl
on_side topology side test p n none acks adds (step ∷ before) h =
    let parts : weigh (λ a. occurs n (side_of side p a)) (acknowledgements topology before ++ acknowledged_by topology before step) ≡ weigh (λ a. occurs n (side_of side p a)) (acknowledgements topology before) + weigh (λ a. occurs n (side_of side p a)) (acknowledged_by topology before step) = weigh-append (λ a. occurs n (side_of side p a)) (acknowledgements topology before) (acknowledged_by topology before step) in
    let old : weigh (λ a. occurs n (side_of side p a)) (acknowledgements topology before) ≡ as_number (is_producer (producer_of before n) p && test (place topology before n)) = on_side topology side test p n none acks adds before (legal_before topology before step h) in
    parts ∙ ((λ i. old i + adds before step h i) ∙ either (is_acked (place topology before n)) refl)
  where
    either : (b : Bool) → is_acked (place topology before n) ≡ b → as_number (is_producer (producer_of before n) p && test (place topology before n)) + as_number (is_producer (producer_of (step ∷ before) n) p && (not b && test (place topology (step ∷ before) n))) ≡ as_number (is_producer (producer_of (step ∷ before) n) p && test (place topology (step ∷ before) n))
    either true e =
        let now : as_number (is_producer (producer_of (step ∷ before) n) p && test (place topology (step ∷ before) n)) ≡ as_number (is_producer (producer_of before n) p && test (place topology before n)) = let a = acked_producer topology before step n e in let b = acked_same topology before step n e in λ i. as_number (is_producer (a i) p && test (b i)) in
        let no_more : as_number (is_producer (producer_of (step ∷ before) n) p && false) ≡ 0 = and_false (is_producer (producer_of (step ∷ before) n) p) in
        omega arith
    either false e =
        let not_yet : as_number (is_producer (producer_of before n) p && test (place topology before n)) ≡ 0 = ap (λ t. as_number (is_producer (producer_of before n) p && t)) (acks (place topology before n) e) ∙ and_false (is_producer (producer_of before n) p) in
        omega arith

successful_acks : (o : Option Place) → is_acked o ≡ false → is_acked_successful o ≡ false
successful_acks (Some (Acked Successful)) h = cc
successful_acks _ h = refl

failed_acks : (o : Option Place) → is_acked o ≡ false → is_acked_failed o ≡ false
failed_acks (Some (Acked (Failed why))) h = cc
failed_acks _ h = refl

times_all : (entries : List Acknowledgement) (n : ℕ) → times_in_all entries n ≡ weigh (λ a. occurs n (both_sides a)) entries
times_all entries n = count_occurs n (flat_map both_sides entries) ∙ occurs_flat n both_sides entries

times_side : (side : Acknowledgement → List ℕ) (entries : List Acknowledgement) (p : StageNo) (n : ℕ) → times_on side entries p n ≡ weigh (λ a. occurs n (side_of side p a)) entries
times_side side entries p n = count_occurs n (flat_map (side_of side p) entries) ∙ occurs_flat n (side_of side p) entries

-- an acknowledged message stands once, under its producer and on the side of its outcome, and no other stands there
pub acknowledged_once : (topology : Topology) (before : History) (n : ℕ) → IsSound topology → is_legal topology before ≡ true → IsAcknowledgedOnce topology before n
acknowledged_once topology before n sound h =
    record {
      successful = λ p made acked.
          times_side (λ a. a.successful) (acknowledgements topology before) p n
          ∙ (on_side topology (λ a. a.successful) is_acked_successful p n refl successful_acks (λ b step k. added_successful topology b step n ascend k p) before h
          ∙ ((λ i. as_number (is_producer (made i) p && is_acked_successful (acked i))) ∙ ap (λ b. as_number (b && true)) (same_stage-self p)));
      failed = λ p why made acked.
          times_side (λ a. a.failed) (acknowledgements topology before) p n
          ∙ (on_side topology (λ a. a.failed) is_acked_failed p n refl failed_acks (λ b step k. added_failed topology b step n ascend k p) before h
          ∙ ((λ i. as_number (is_producer (made i) p && is_acked_failed (acked i))) ∙ ap (λ b. as_number (b && true)) (same_stage-self p)));
      once = λ outcome acked. times_all (acknowledgements topology before) n ∙ (in_all topology before n ascend h ∙ ap (λ p. as_number (is_acked p)) acked);
      no_other = λ other. times_all (acknowledgements topology before) n ∙ (in_all topology before n ascend h ∙ ap as_number (none other));
    }
  where
    ascend : AscendFrom 0 topology.stages
    ascend = sound_ascends topology sound

    none : ((outcome : Outcome) → place topology before n ≡ Some (Acked outcome) → ⊥) → is_acked (place topology before n) ≡ false
    none other = false_from_ne_true (is_acked (place topology before n)) (λ a. let t = acked_place (place topology before n) a in other t.0 t.1)
