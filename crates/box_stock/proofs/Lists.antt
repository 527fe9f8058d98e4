-- Places in lists that are put together.
use Rattle.std.proofs.Common.{◌≡◌, ℕ, zero, suc, ◌+◌, ◌-◌, ◌<◌, List, [], ◌∷◌, ◌++◌, length, take, refl, ap, sym, ◌∙◌, arith, Some, inl, inr}
use Rattle.std.specs.Prelude.{slice_get}
use Rattle.std.specs.List.{flat_map}
use Rattle.std.proofs.lemmas.Bool.{cases_lt}
use Rattle.std.proofs.lemmas.List.{length-append}

-- what stands in the first part
pub front : {A : Type 0} (xs ys : List A) (l : ℕ) → l < length xs → slice_get (xs ++ ys) l ≡ slice_get xs l
front [] ys l below = absurd (omega (arith, below))
front (x ∷ xs) ys zero below = refl
front (x ∷ xs) ys (suc l) below = front xs ys l (omega (arith, below))

-- what stands in the second part
pub behind : {A : Type 0} (xs ys : List A) (l : ℕ) → slice_get (xs ++ ys) (length xs + l) ≡ slice_get ys l
behind [] ys l = let e : 0 + l ≡ l = omega arith in ap (slice_get ys) e
behind (x ∷ xs) ys l = let e : suc (length xs) + l ≡ suc (length xs + l) = omega arith in ap (slice_get (x ∷ (xs ++ ys))) e ∙ behind xs ys l

pub at_index : {A B : Type 0} (f : A → List B) (xs : List A) (i : ℕ) (x : A) (l : ℕ) → slice_get xs i ≡ Some x → l < length (f x)
    → slice_get (flat_map f xs) (length (flat_map f (take i xs)) + l) ≡ slice_get (f x) l
at_index f [] i x l e below = cc
at_index f (y ∷ ys) zero x l e below =
    let is : y ≡ x = cc in
    let none : 0 + l ≡ l = omega arith in
    ap (slice_get (f y ++ flat_map f ys)) none ∙ (front (f y) (flat_map f ys) l (rw is below) ∙ ap (λ z. slice_get (f z) l) is)
at_index f (y ∷ ys) (suc i) x l e below =
    let more : length (f y ++ flat_map f (take i ys)) + l ≡ length (f y) + (length (flat_map f (take i ys)) + l) = omega (arith, length-append (f y) (flat_map f (take i ys))) in
    ap (slice_get (f y ++ flat_map f ys)) more ∙ (behind (f y) (flat_map f ys) (length (flat_map f (take i ys)) + l) ∙ at_index f ys i x l e below)

-- where an element of lists that were put together comes from
pub record FoundIn {A B : Type 0} (f : A → List B) (xs : List A) (r : ℕ) (p : B) : Type 0 where
  pub at : ℕ
  pub from : A
  pub here : slice_get xs at ≡ Some from
  pub place : ℕ
  pub inside : slice_get (f from) place ≡ Some p
  pub rank : r ≡ length (flat_map f (take at xs)) + place

found_first : {A B : Type 0} (f : A → List B) (y : A) (ys : List A) (r : ℕ) (p : B) → r < length (f y) → slice_get (f y ++ flat_map f ys) r ≡ Some p → FoundIn f (y ∷ ys) r p
found_first f y ys r p below e = record {
  at = 0;
  from = y;
  here = refl;
  place = r;
  inside = sym (front (f y) (flat_map f ys) r below) ∙ e;
  rank = omega arith;
}

found_later : {A B : Type 0} (f : A → List B) (y : A) (ys : List A) (r m : ℕ) (p : B) → r ≡ length (f y) + m → FoundIn f ys m p → FoundIn f (y ∷ ys) r p
found_later f y ys r m p is found = record {
  at = suc found.at;
  from = found.from;
  here = found.here;
  place = found.place;
  inside = found.inside;
  rank = omega (arith, is, found.rank, length-append (f y) (flat_map f (take found.at ys)));
}

pub find_in : {A B : Type 0} (f : A → List B) (xs : List A) (r : ℕ) (p : B) → slice_get (flat_map f xs) r ≡ Some p → FoundIn f xs r p
find_in f [] r p e = cc
find_in f (y ∷ ys) r p e =
    elim (cases_lt r (length (f y))) [
      | inl below ↦ found_first f y ys r p below e
      | inr up ↦
          let m = r - length (f y) in
          let is : r ≡ length (f y) + m = omega (arith, up) in
          found_later f y ys r m p is (find_in f ys m p (sym (behind (f y) (flat_map f ys) m) ∙ (ap (slice_get (f y ++ flat_map f ys)) (sym is) ∙ e)))
    ]
