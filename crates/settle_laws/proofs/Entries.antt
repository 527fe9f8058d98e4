-- The entries of a step, from the messages that it acknowledges; which these are, from the step that settled each.
use Rattle.std.proofs.Common.{◌≡◌, ℕ, suc, ◌<◌, List, [], ◌∷◌, length, Bool, true, false, refl, ap, sym, ◌∙◌, Some, None, Option, cond, arith}
use Rattle.std.specs.Prelude.{if◌then◌else◌, not, ◌==◌, ◌&&◌, filter, IsTrue}
use Rattle.std.proofs.lemmas.Bool.{eq-eqb, ne_eqb}
use Rattle.pipe_types.specs.declared.numbers.StageNo.{StageNo}
use Rattle.pipe_types.specs.declared.topology.Topology.{Topology}
use Rattle.pipe_types.specs.declared.message.Place.{Place}
use Rattle.pipe_types.specs.declared.message.Place.TheVariants.{Waiting, Inbox, Running, Gathered, InBatch, Acked, Lost}
use Rattle.pipe_types.specs.declared.message.Outcome.TheVariants.{Successful, Failed}
use Rattle.pipe_types.specs.declared.step.Step.{Step}
use Rattle.pipe_model.specs.History.{History, accepted}
use Rattle.pipe_model.specs.Content.{producer_of}
use Rattle.pipe_model.specs.Flow.{place}
use Rattle.pipe_model.specs.Moves.{is_final}
use Rattle.pipe_model.specs.Places.{settled_at}
use Rattle.pipe_model.specs.Acknowledgements.{settled_by, numbers_upto, is_acked, is_acked_successful, is_acked_failed, is_producer}
use Rattle.pipe_laws.proofs.Settled.{stays_settled}
use Rattle.settle_laws.specs.Settled.{is_newly, settled_last, of_producer}

-- Which messages these are

not_acked : (p : Option Place) → is_final p ≡ false → is_acked p ≡ false
not_acked (Some (Acked o)) h = cc
not_acked (Some (Lost l)) h = refl
not_acked None h = refl
not_acked (Some (Waiting s)) h = refl
not_acked (Some (Inbox u)) h = refl
not_acked (Some (Running s)) h = refl
not_acked (Some (Gathered s)) h = refl
not_acked (Some (InBatch b)) h = refl

and_false : (b : Bool) → (b && false) ≡ false
and_false true = refl
and_false false = refl

-- the step that settles, from the one that settled before and whether the message is settled before and after
abbrev settled_now : (settled after : Bool) → (old steps : ℕ) → ℕ
settled_now settled after old steps = if settled then old else (if after then steps else 0)

new_same : (a b : Option Place) (old steps : ℕ) → (is_final a ≡ true → b ≡ a) → (is_final a ≡ true → old < steps)
    → (settled_now (is_final a) (is_final b) old steps == steps && is_acked b) ≡ (not (is_acked a) && is_acked b)
new_same a b old steps stays early = by_before (is_final a) refl (is_final b) refl
  where
    by_acked : (c : Bool) → is_acked a ≡ c → is_final a ≡ true → false ≡ (not c && is_acked b)
    by_acked true k e = refl
    by_acked false k e = sym (ap is_acked (stays e) ∙ k)

    by_before : (f : Bool) → is_final a ≡ f → (g : Bool) → is_final b ≡ g → (settled_now f g old steps == steps && is_acked b) ≡ (not (is_acked a) && is_acked b)
    by_before true e g k = ap (λ t. t && is_acked b) (ne_eqb old steps (λ h. let low : old < steps = early e in omega (arith, h, low))) ∙ by_acked (is_acked a) refl e
    by_before false e true k = ap (λ t. t && is_acked b) (eq-eqb steps steps refl) ∙ sym (ap (λ t. not t && is_acked b) (not_acked a e))
    by_before false e false k = ap (λ t. 0 == steps && t) (not_acked b k) ∙ (and_false (0 == steps) ∙ (sym (not_acked b k) ∙ sym (ap (λ t. not t && is_acked b) (not_acked a e))))

-- what is settled was settled by a step of the journal
settled_early : (topology : Topology) (before : History) (n : ℕ) → is_final (place topology before n) ≡ true → settled_at topology before n < length before
settled_early topology [] n h = cc
settled_early topology (step ∷ before) n h = by_before (is_final (place topology before n)) (is_final (place topology (step ∷ before) n)) h (settled_early topology before n)
  where
    by_before : (f g : Bool) → g ≡ true → (f ≡ true → settled_at topology before n < length before) → settled_now f g (settled_at topology before n) (length before) < suc (length before)
    by_before true g k rest = let low : settled_at topology before n < length before = rest refl in omega (arith, low)
    by_before false true k rest = omega arith
    by_before false false k rest = cc

-- the last step acknowledges just what is acknowledged and was settled by it
pub newly_is : (topology : Topology) (before : History) (step : Step) (n : ℕ) → (settled_at topology (step ∷ before) n == length before && is_acked (place topology (step ∷ before) n)) ≡ is_newly topology before step n
newly_is topology before step n =
    new_same (place topology before n) (place topology (step ∷ before) n) (settled_at topology before n) (length before)
    (λ h. stays_settled topology (step ∷ []) before n (let is : IsTrue (is_final (place topology before n)) = h in is))
    (settled_early topology before n)

-- The entries

-- both sides are acknowledged

pub successful_side : (p : Option Place) → (is_acked p && is_acked_successful p) ≡ is_acked_successful p
successful_side (Some (Acked Successful)) = refl
successful_side (Some (Acked (Failed why))) = refl
successful_side (Some (Lost l)) = refl
successful_side None = refl
successful_side (Some (Waiting s)) = refl
successful_side (Some (Inbox u)) = refl
successful_side (Some (Running s)) = refl
successful_side (Some (Gathered s)) = refl
successful_side (Some (InBatch b)) = refl

pub failed_side : (p : Option Place) → (is_acked p && is_acked_failed p) ≡ is_acked_failed p
failed_side (Some (Acked Successful)) = refl
failed_side (Some (Acked (Failed why))) = refl
failed_side (Some (Lost l)) = refl
failed_side None = refl
failed_side (Some (Waiting s)) = refl
failed_side (Some (Inbox u)) = refl
failed_side (Some (Running s)) = refl
failed_side (Some (Gathered s)) = refl
failed_side (Some (InBatch b)) = refl

-- a filter of a filter, where both together pass what one does
filter_both : (p q r : ℕ → Bool) → ((n : ℕ) → (p n && q n) ≡ r n) → (xs : List ℕ) → filter r xs ≡ filter q (filter p xs)
filter_both p q r same [] = refl
filter_both p q r same (x ∷ xs) = ap (λ b. cond b (x ∷ filter r xs) (filter r xs)) (sym (same x)) ∙ by (p x) (filter_both p q r same xs)
  where
    by : (a : Bool) → filter r xs ≡ filter q (filter p xs) → cond (a && q x) (x ∷ filter r xs) (filter r xs) ≡ filter q (cond a (x ∷ filter p xs) (filter p xs))
    by true rest = ap (λ ys. cond (q x) (x ∷ ys) ys) rest
    by false rest = rest

-- the numbers of an entry are those of the producer among what the step acknowledged
pub entry_numbers : (topology : Topology) (before : History) (step : Step) (p : StageNo) (side : Option Place → Bool) → ((o : Option Place) → (is_acked o && side o) ≡ side o)
    → settled_by topology before step p side ≡ of_producer topology (step ∷ before) (settled_last topology (step ∷ before)) p side
entry_numbers topology before step p side is =
    filter_both (is_newly topology before step) (λ n. is_producer (producer_of (step ∷ before) n) p && side (place topology (step ∷ before) n))
    (λ n. is_producer (producer_of (step ∷ before) n) p && (not (is_acked (place topology before n)) && side (place topology (step ∷ before) n)))
    (λ n. each (not (is_acked (place topology before n))) (is_producer (producer_of (step ∷ before) n) p) (place topology (step ∷ before) n))
    (numbers_upto (accepted (step ∷ before)))
  where
    each : (a b : Bool) (o : Option Place) → ((a && is_acked o) && (b && side o)) ≡ (b && (a && side o))
    each false b o = sym (and_false b)
    each true false o = and_false (is_acked o)
    each true true o = is o
