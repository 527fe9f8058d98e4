-- Boxes of a kind, by their places.
use Rattle.std.proofs.Common.{◌≡◌, ℕ, zero, suc, ◌+◌, ◌<◌, ◌≤◌, Bool, true, false, cond, List, [], ◌∷◌, take, refl, ap, sym, ◌∙◌, subst, arith, Some, inl, inr}
use Rattle.std.specs.Prelude.{slice_get, ◌⊎◌}
use Rattle.std.proofs.lemmas.Bool.{cases_lt}
use Rattle.std.proofs.lemmas.List.Sums.{sum_by-cons}
use Rattle.pipe_types.specs.declared.topology.Kind.{Kind}
use Rattle.pipe_types.specs.declared.topology.Kind.TheVariants.{Steps, Lines, Own}
use Rattle.stage_job.specs.Boxes.{same_kind, boxes_of_kind}

pub same_kind-true : (a b : Kind) → same_kind a b ≡ true → a ≡ b
same_kind-true Steps Steps e = refl
same_kind-true Steps Lines e = cc
same_kind-true Steps Own e = cc
same_kind-true Lines Steps e = cc
same_kind-true Lines Lines e = refl
same_kind-true Lines Own e = cc
same_kind-true Own Steps e = cc
same_kind-true Own Lines e = cc
same_kind-true Own Own e = refl

pub same_kind-self : (a : Kind) → same_kind a a ≡ true
same_kind-self Steps = refl
same_kind-self Lines = refl
same_kind-self Own = refl

counted : (kind x : Kind) (xs : List Kind) → boxes_of_kind kind (x ∷ xs) ≡ cond (same_kind kind x) 1 0 + boxes_of_kind kind xs
counted kind x xs = sum_by-cons (λ (k : Kind). cond (same_kind kind k) 1 0) x xs

counted_this : (kind : Kind) (xs : List Kind) → boxes_of_kind kind (kind ∷ xs) ≡ 1 + boxes_of_kind kind xs
counted_this kind xs = counted kind kind xs ∙ ap (λ t. cond t 1 0 + boxes_of_kind kind xs) (same_kind-self kind)

-- a box of the kind stands before a later place
pub ahead : (kind : Kind) (kinds : List Kind) (j k : ℕ) → j < k → slice_get kinds j ≡ Some kind → boxes_of_kind kind (take j kinds) < boxes_of_kind kind (take k kinds)
ahead kind [] j k below e = cc
ahead kind (x ∷ xs) j zero below e = absurd (omega (arith, below))
ahead kind (x ∷ xs) zero (suc k) below e =
    let is : kind ≡ x = cc in
    let more : boxes_of_kind kind (x ∷ take k xs) ≡ 1 + boxes_of_kind kind (take k xs) = subst (λ z. boxes_of_kind kind (z ∷ take k xs) ≡ 1 + boxes_of_kind kind (take k xs)) is (counted_this kind (take k xs)) in
    let none : boxes_of_kind kind [] ≡ 0 = refl in
    omega (arith, more, none)
ahead kind (x ∷ xs) (suc j) (suc k) below e =
    omega (arith, counted kind x (take j xs), counted kind x (take k xs), ahead kind xs j k (omega (arith, below)) e)

-- as many of the kind stand before one box of it alone
pub only_place : (kind : Kind) (kinds : List Kind) (j k : ℕ) → slice_get kinds j ≡ Some kind → slice_get kinds k ≡ Some kind → boxes_of_kind kind (take j kinds) ≡ boxes_of_kind kind (take k kinds) → j ≡ k
only_place kind kinds j k one other same =
    elim (cases_lt j k) [
      | inl below ↦ absurd (omega (arith, ahead kind kinds j k below one, same))
      | inr up ↦ only_up kind kinds j k up one other same
    ]
  where
    only_up : (kind : Kind) (kinds : List Kind) (j k : ℕ) → k ≤ j → slice_get kinds j ≡ Some kind → slice_get kinds k ≡ Some kind → boxes_of_kind kind (take j kinds) ≡ boxes_of_kind kind (take k kinds) → j ≡ k
    only_up kind kinds j k up one other same =
        elim (cases_lt k j) [
          | inl below ↦ absurd (omega (arith, ahead kind kinds k j below other, same))
          | inr down ↦ omega (arith, up, down)
        ]

-- the box of the kind that has so many of it before it
pub record IsNth (kind : Kind) (kinds : List Kind) (r : ℕ) : Type 0 where
  pub at : ℕ
  pub here : slice_get kinds at ≡ Some kind
  pub rank : boxes_of_kind kind (take at kinds) ≡ r

nth_this : (kind x : Kind) (xs : List Kind) (r : ℕ) → kind ≡ x → (r < boxes_of_kind kind xs → IsNth kind xs r) → (m : ℕ) → (m ≡ 0) ⊎ ((m ≡ suc r) × (r < boxes_of_kind kind xs)) → IsNth kind (x ∷ xs) m
nth_this kind x xs r is later m (inl none) = record { at = 0; here = ap Some (sym is); rank = sym none }
nth_this kind x xs r is later m (inr some) =
    let found = later some.1 in
    let first : boxes_of_kind kind (x ∷ take found.at xs) ≡ 1 + boxes_of_kind kind (take found.at xs) = subst (λ z. boxes_of_kind kind (z ∷ take found.at xs) ≡ 1 + boxes_of_kind kind (take found.at xs)) is (counted_this kind (take found.at xs)) in
    record { at = suc found.at; here = found.here; rank = omega (arith, first, found.rank, some.0) }

nth_other : (kind x : Kind) (xs : List Kind) (r : ℕ) → same_kind kind x ≡ false → IsNth kind xs r → IsNth kind (x ∷ xs) r
nth_other kind x xs r other found =
    record { at = suc found.at; here = found.here; rank = counted kind x (take found.at xs) ∙ (ap (λ t. cond t 1 0 + boxes_of_kind kind (take found.at xs)) other ∙ omega (arith, found.rank)) }

pub nth : (kind : Kind) (kinds : List Kind) (r : ℕ) → r < boxes_of_kind kind kinds → IsNth kind kinds r
nth kind [] r below = let none : boxes_of_kind kind [] ≡ 0 = refl in absurd (omega (arith, below, none))
nth kind (x ∷ xs) r below = by_kind (same_kind kind x) refl (λ m less. nth kind xs m less) r below
  where
    by_kind : (t : Bool) → same_kind kind x ≡ t → ((m : ℕ) → m < boxes_of_kind kind xs → IsNth kind xs m) → (r : ℕ) → r < boxes_of_kind kind (x ∷ xs) → IsNth kind (x ∷ xs) r
    by_kind false other later r below =
        let same : boxes_of_kind kind (x ∷ xs) ≡ 0 + boxes_of_kind kind xs = counted kind x xs ∙ ap (λ t. cond t 1 0 + boxes_of_kind kind xs) other in
        nth_other kind x xs r other (later r (omega (arith, below, same)))
    by_kind true this later zero below =
        nth_this kind x xs 0 (same_kind-true kind x this) (later 0) 0 (inl refl)
    by_kind true this later (suc r) below =
        let more : boxes_of_kind kind (x ∷ xs) ≡ 1 + boxes_of_kind kind xs = counted kind x xs ∙ ap (λ t. cond t 1 0 + boxes_of_kind kind xs) this in
        nth_this kind x xs r (same_kind-true kind x this) (later r) (suc r) (inr (refl, omega (arith, below, more)))
