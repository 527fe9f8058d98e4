-- A table read place by place, from 0.
use Rattle.std.proofs.Common.{◌≡◌, ℕ, zero, suc, ◌+◌, ◌<◌, ◌≤◌, List, [], ◌∷◌, length, get_or, take, drop, Bool, true, false, refl, ap, sym, ◌∙◌, Some, Option, arith}
use Rattle.std.specs.Prelude.{slice_get, count_by, cond, unwrap_or, ◌||◌}
use Rattle.std.specs.List.{list_any}
use Rattle.std.proofs.lemmas.List.Sums.{count_by_more_no, count_by_more_yes}
use Rattle.std.proofs.lemmas.Option.{slice_get_within, get_or_from_slice_get}

-- those up to a place that pass a test, and the one there
pub count_next : {A : Type 0} (test : A → Bool) (xs : List A) (i : ℕ) (x : A) (b : Bool) → slice_get xs i ≡ Some x → b ≡ test x
    → count_by test (take i xs) + cond b 1 0 ≡ count_by test (take (i + 1) xs)
count_next test xs i x b there is = by b is
  where
    within : i < length xs
    within = slice_get_within xs i x there

    here : test (get_or xs i x) ≡ test x
    here = ap test (get_or_from_slice_get xs i x x there)

    by : (c : Bool) → c ≡ test x → count_by test (take i xs) + cond c 1 0 ≡ count_by test (take (i + 1) xs)
    by true e = sym (count_by_more_yes test xs i x within (here ∙ sym e))
    by false e = plus_none (count_by test (take i xs)) ∙ sym (count_by_more_no test xs i x within (here ∙ sym e))
      where
        plus_none : (n : ℕ) → n + 0 ≡ n
        plus_none n = omega arith

pub at_most_one : (b : Bool) → cond b 1 0 ≤ 1
at_most_one true = omega arith
at_most_one false = omega arith

-- whether one of those from a place on passes a test
pub any_from : {A : Type 0} (test : A → Bool) (xs : List A) (k : ℕ) (x : A) (b : Bool) → slice_get xs k ≡ Some x → b ≡ test x
    → list_any test (drop k xs) ≡ (b || list_any test (drop (k + 1) xs))
any_from test [] k x b there is = absurd (omega (arith, slice_get_within [] k x there))
any_from {A} test (y ∷ xs) zero x b there is = ap (λ (c : Bool). c || list_any test xs) (ap test (same_value y x there) ∙ sym is)
  where
    same_value : (p q : A) → Some p ≡ Some q → p ≡ q
    same_value p q e = ap (λ o. unwrap_or o p) e
any_from test (y ∷ xs) (suc k) x b there is = any_from test xs k x b there is ∙ ap (λ n. b || list_any test (drop n (y ∷ xs))) (one_on k)
  where
    one_on : (n : ℕ) → suc (n + 1) ≡ suc n + 1
    one_on n = omega arith
