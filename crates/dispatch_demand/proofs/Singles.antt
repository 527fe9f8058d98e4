-- A test that one element of a list passes, or none.
use Rattle.std.proofs.Common.{◌≡◌, ◌≢◌, ℕ, ◌+◌, ◌<◌, ◌≤◌, ⊎_elim, List, [], ◌∷◌, length, get_or, take, suc, zero, refl, ap, sym, ◌∙◌, arith}
use Rattle.std.specs.Prelude.{Bool, true, false, cond, filter, sum_by, count_by}
use Rattle.std.specs.List.{All}
use Rattle.std.specs.List.Sorted.{IsPermutation}
use Rattle.std.proofs.lemmas.Bool.{cases_eq, false≢true}
use Rattle.std.proofs.lemmas.List.{nil_from_length}
use Rattle.std.proofs.lemmas.List.Elements.{All-head, All-tail, All-from_get_or}
use Rattle.std.proofs.lemmas.List.Sorted.{All-permutation, IsPermutation-sym, sum_by-IsPermutation}
use Rattle.std.proofs.lemmas.List.Sums.{sum_by-cons, length-filter}

module _ {X : Type 0} where
  -- a sum over a list of which only the front counts
  pub sum_of_front : (f g : X → ℕ) (xs : List X) (k : ℕ) (e : X) → ((i : ℕ) → i < length xs → i < k → f (get_or xs i e) ≡ g (get_or xs i e)) → ((i : ℕ) → i < length xs → k ≤ i → f (get_or xs i e) ≡ 0) → sum_by f xs ≡ sum_by g (take k xs)
  sum_of_front f g [] zero e front back = refl
  sum_of_front f g [] (suc k) e front back = refl
  sum_of_front f g (x ∷ xs) zero e front back =
      let here : f x ≡ 0 = back 0 (omega arith) (omega arith) in
      let rest : sum_by f xs ≡ 0 = sum_of_front f g xs zero e (λ i within below. absurd (omega arith)) (λ i within past. back (suc i) (omega arith) (omega arith)) in
      rw (sum_by-cons f x xs) (omega arith)
  sum_of_front f g (x ∷ xs) (suc k) e front back =
      let here : f x ≡ g x = front 0 (omega arith) (omega arith) in
      let rest : sum_by f xs ≡ sum_by g (take k xs) =
      sum_of_front f g xs k e (λ i within below. front (suc i) (omega arith) (omega arith)) (λ i within past. back (suc i) (omega arith) (omega arith)) in
      rw (sum_by-cons f x xs, sum_by-cons g x (take k xs)) (omega arith)

  count_none : (test : X → Bool) (xs : List X) (e : X) → ((i : ℕ) → i < length xs → test (get_or xs i e) ≡ false) → count_by test xs ≡ 0
  count_none test xs e none =
      let counted : X → ℕ = λ x. cond (test x) 1 0 in
      sum_of_front counted counted xs 0 e (λ i within below. refl) (λ i within past. ap (λ (b : Bool). cond b 1 0) (none i within))

  count_one : (test : X → Bool) (xs : List X) (k : ℕ) (e : X) → k < length xs → test (get_or xs k e) ≡ true → ((i : ℕ) → i < length xs → i ≢ k → test (get_or xs i e) ≡ false) → count_by test xs ≡ 1
  count_one test [] k e within passes others = absurd (omega arith)
  count_one test (x ∷ xs) zero e within passes others =
      let none : count_by test xs ≡ 0 = count_none test xs e (λ i w. others (suc i) (omega arith) (omega arith)) in
      let here : cond {A = ℕ} (test x) 1 0 ≡ 1 = ap (λ (b : Bool). cond b 1 0) passes in
      rw sum_by-cons (omega arith)
  count_one test (x ∷ xs) (suc k) e within passes others =
      let one : count_by test xs ≡ 1 = count_one test xs k e (omega arith) passes (λ i w apart. others (suc i) (omega arith) (omega arith)) in
      let here : cond {A = ℕ} (test x) 1 0 ≡ 0 = ap (λ (b : Bool). cond b 1 0) (others 0 (omega arith) (omega arith)) in
      rw sum_by-cons (omega arith)

  filter_none : (test : X → Bool) (xs : List X) → count_by test xs ≡ 0 → filter test xs ≡ []
  filter_none test xs none = nil_from_length (filter test xs) (length-filter test xs ∙ none)

  filter_one : (test : X → Bool) (xs : List X) (x : X) → count_by test xs ≡ 1 → All (λ y. test y ≡ true → y ≡ x) xs → filter test xs ≡ x ∷ []
  filter_one test [] x one only = absurd (omega arith)
  filter_one test (y ∷ ys) x one only = either (test y) refl (λ later. filter_one test ys x later (All-tail (λ z. test z ≡ true → z ≡ x) y ys only))
    where
      counted : cond (test y) 1 0 + count_by test ys ≡ 1
      counted = sym (sum_by-cons (λ z. cond (test z) 1 0) y ys) ∙ one

      either : (b : Bool) → test y ≡ b → (count_by test ys ≡ 1 → filter test ys ≡ x ∷ []) → cond b (y ∷ filter test ys) (filter test ys) ≡ x ∷ []
      either true passes rest =
          let same : y ≡ x = All-head (λ z. test z ≡ true → z ≡ x) y ys only passes in
          let here : cond {A = ℕ} (test y) 1 0 ≡ 1 = ap (λ (b : Bool). cond b 1 0) passes in
          let total : cond {A = ℕ} (test y) 1 0 + count_by test ys ≡ 1 = counted in
          let none : filter test ys ≡ [] = filter_none test ys (omega arith) in
          cc
      either false fails rest =
          let here : cond {A = ℕ} (test y) 1 0 ≡ 0 = ap (λ (b : Bool). cond b 1 0) fails in
          let total : cond {A = ℕ} (test y) 1 0 + count_by test ys ≡ 1 = counted in
          rest (omega arith)

  -- of a list in another order, the one element that passes
  pub filter_single : (test : X → Bool) (xs ys : List X) (k : ℕ) (e : X) → IsPermutation xs ys → k < length ys → test (get_or ys k e) ≡ true → ((i : ℕ) → i < length ys → i ≢ k → test (get_or ys i e) ≡ false) → filter test xs ≡ get_or ys k e ∷ []
  filter_single test xs ys k e same within passes others =
      filter_one test xs (get_or ys k e)
      (sym (sum_by-IsPermutation (λ x. cond (test x) 1 0) xs ys same) ∙ count_one test ys k e within passes others)
      (All-permutation P ys xs (IsPermutation-sym xs ys same) (All-from_get_or P ys e only))
    where
      P : X → Type 0
      P y = test y ≡ true → y ≡ get_or ys k e

      only : (i : ℕ) → i < length ys → P (get_or ys i e)
      only i w here = ⊎_elim (λ at. ap (λ (n : ℕ). get_or ys n e) at) (λ apart. absurd (false≢true (sym (others i w apart) ∙ here))) (cases_eq i k)

  count_nothing : (test : X → Bool) (xs : List X) → ((i : ℕ) (e : X) → i < length xs → test (get_or xs i e) ≡ false) → count_by test xs ≡ 0
  count_nothing test [] none = refl
  count_nothing test (x ∷ xs) none = count_none test (x ∷ xs) x (λ i w. none i x w)

  pub filter_empty : (test : X → Bool) (xs ys : List X) → IsPermutation xs ys → ((i : ℕ) (e : X) → i < length ys → test (get_or ys i e) ≡ false) → filter test xs ≡ []
  filter_empty test xs ys same none = filter_none test xs (sym (sum_by-IsPermutation (λ x. cond (test x) 1 0) xs ys same) ∙ count_nothing test ys none)
