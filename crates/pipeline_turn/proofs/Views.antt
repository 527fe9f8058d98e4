-- The list of all views, and the parts in it.
use Rattle.std.proofs.Common.{◌≡◌, ◌≢◌, ℕ, zero, suc, ◌+◌, ◌≤◌, List, [], ◌∷◌, ◌++◌, set, refl, sym, ap, ◌∙◌, subst, arith}
use mathlib.Core.Option.{some, some-ne-none, some-injective}
use lib.ListN.{get_elem?}
use Rattle.pipeline_turn.specs.declared.view.View.{View}
use Rattle.pipeline_turn.specs.Rule.{total}

module _ {A : Type 0} where
  -- in place of the one that was there
  pub put_here : (l : List A) (i : ℕ) (a b : A) → get_elem? l i ≡ some b → get_elem? (set l i a) i ≡ some a
  put_here [] i a b e = absurd (some-ne-none b (sym e))
  put_here (x ∷ xs) zero a b e = refl
  put_here (x ∷ xs) (suc i) a b e = put_here xs i a b e

  pub only : (l : List A) (i : ℕ) (a b : A) → get_elem? l i ≡ some a → get_elem? l i ≡ some b → a ≡ b
  only l i a b e f = some-injective a b (sym e ∙ f)

  -- the list of one
  pub at_first : (P : ℕ → A → Type 0) (a : A) → P 0 a → (j : ℕ) (u : A) → get_elem? (a ∷ []) j ≡ some u → P j u
  at_first P a p zero u e = subst (P 0) (some-injective a u e) p
  at_first P a p (suc j) u e = absurd (some-ne-none u (sym e))

  pub first_index : (a : A) (j : ℕ) (u : A) → get_elem? (a ∷ []) j ≡ some u → j ≡ 0
  first_index a zero u e = refl
  first_index a (suc j) u e = absurd (some-ne-none u (sym e))

module _ {O : Type 0} where
  abbrev parts : View O → ℕ
  parts v = v.parts

  pub total_set : (vs : List (View O)) (i : ℕ) (v w : View O) → get_elem? vs i ≡ some v → total (set vs i w) + v.parts ≡ total vs + w.parts
  total_set [] i v w e = absurd (some-ne-none v (sym e))
  total_set (x ∷ vs) zero v w e = let same : x.parts ≡ v.parts = ap parts (some-injective x v e) in omega arith
  total_set (x ∷ vs) (suc i) v w e = let h = total_set vs i v w e in omega arith

  pub total_snoc : (vs : List (View O)) (w : View O) → total (vs ++ w ∷ []) ≡ total vs + w.parts
  total_snoc [] w = omega arith
  total_snoc (x ∷ vs) w = let h = total_snoc vs w in omega arith

  pub total_at : (vs : List (View O)) (i : ℕ) (v : View O) → get_elem? vs i ≡ some v → v.parts ≤ total vs
  total_at [] i v e = absurd (some-ne-none v (sym e))
  total_at (x ∷ vs) zero v e = let same : x.parts ≡ v.parts = ap parts (some-injective x v e) in omega arith
  total_at (x ∷ vs) (suc i) v e = let h = total_at vs i v e in omega arith

  pub total_two : (vs : List (View O)) (i j : ℕ) (v w : View O) → i ≢ j → get_elem? vs i ≡ some v → get_elem? vs j ≡ some w → v.parts + w.parts ≤ total vs
  total_two [] i j v w n e f = absurd (some-ne-none v (sym e))
  total_two (x ∷ vs) zero zero v w n e f = absurd (n refl)
  total_two (x ∷ vs) zero (suc j) v w n e f = let same : x.parts ≡ v.parts = ap parts (some-injective x v e) in let h = total_at vs j w f in omega arith
  total_two (x ∷ vs) (suc i) zero v w n e f = let same : x.parts ≡ w.parts = ap parts (some-injective x w f) in let h = total_at vs i v e in omega arith
  total_two (x ∷ vs) (suc i) (suc j) v w n e f = let h = total_two vs i j v w (λ same. n (ap suc same)) e f in omega arith
