-- Lists of keys: which are among them, and the sums of their weights.
use Rattle.std.proofs.Common.{◌≡◌, ℕ, zero, suc, ◌+◌, ◌*◌, ◌<◌, ◌≤◌, List, [], ◌∷◌, ◌++◌, length, map, Bool, true, false, refl, ap, arith, Some, inl, inr}
use Rattle.std.specs.Prelude.{◌⊎◌, if◌then◌else◌}
use Rattle.std.proofs.lemmas.Bool.{cases_lt}
use Rattle.std.proofs.lemmas.List.{length-append, length-map}
use Rattle.pipe_types.specs.declared.numbers.StageNo.{StageNo}
use Rattle.pipe_types.specs.declared.topology.StageSpec.{StageSpec}
use Rattle.pipe_types.specs.Numbers.{same_stage}
use Rattle.pipe_types.specs.Stages.{spec_in}
use Rattle.pipe_laws.proofs.Tests.{same_stage-true}
use Rattle.pipe_laws.proofs.Lists.{weigh}

abbrev pub Among : {A : Type 0} → A → List A → Type 0
Among x [] = ⊥
Among x (y ∷ ys) = (y ≡ x) ⊎ Among x ys

among-left : {A : Type 0} (x : A) (xs ys : List A) → Among x xs → Among x (xs ++ ys)
among-left x [] ys h = absurd h
among-left x (y ∷ xs) ys (inl is) = inl is
among-left x (y ∷ xs) ys (inr h) = inr (among-left x xs ys h)

among-right : {A : Type 0} (x : A) (xs ys : List A) → Among x ys → Among x (xs ++ ys)
among-right x [] ys h = h
among-right x (y ∷ xs) ys h = inr (among-right x xs ys h)

among-map : {A B : Type 0} (f : A → B) (x : A) (xs : List A) → Among x xs → Among (f x) (map f xs)
among-map f x [] h = absurd h
among-map f x (y ∷ xs) (inl is) = inl (ap f is)
among-map f x (y ∷ xs) (inr h) = inr (among-map f x xs h)

-- the weight of one key more is in the sum
pub weigh_more : {A : Type 0} (old new : A → ℕ) (x : A) (xs : List A) → ((y : A) → old y ≤ new y) → old x + 1 ≤ new x → Among x xs → weigh old xs + 1 ≤ weigh new xs
weigh_more old new x [] grows more h = absurd h
weigh_more old new x (y ∷ xs) grows more (inl is) = let at : old y ≡ old x = ap old is in let now : new y ≡ new x = ap new is in omega (arith, at, now, more, rest xs)
  where
    rest : (xs : List _) → weigh old xs ≤ weigh new xs
    rest [] = omega arith
    rest (z ∷ zs) = omega (arith, rest zs, grows z)
weigh_more old new x (y ∷ xs) grows more (inr h) = omega (arith, weigh_more old new x xs grows more h, grows y)

pub weigh_grows : {A : Type 0} (old new : A → ℕ) (xs : List A) → ((y : A) → old y ≤ new y) → weigh old xs ≤ weigh new xs
weigh_grows old new [] grows = omega arith
weigh_grows old new (x ∷ xs) grows = omega (arith, weigh_grows old new xs grows, grows x)

-- no key weighs more than this
pub weigh_most : {A : Type 0} (g : A → ℕ) (most : ℕ) (xs : List A) → ((x : A) → g x ≤ most) → weigh g xs ≤ length xs * most
weigh_most g most [] f = omega arith
weigh_most g most (x ∷ xs) f = let deep : weigh g xs ≤ length xs * most = weigh_most g most xs f in let more : suc (length xs) * most ≡ length xs * most + most = grind arith in omega (arith, deep, more, f x)

-- The keys

-- the numbers below this
abbrev pub below : ℕ → List ℕ
below zero = []
below (suc n) = n ∷ below n

pub length_below : (n : ℕ) → length (below n) ≡ n
length_below zero = refl
length_below (suc n) = omega (arith, length_below n)

pub among_below : (m n : ℕ) → m < n → Among m (below n)
among_below m zero h = absurd (omega arith)
among_below m (suc n) h = by_order (cases_lt m n) (λ low. among_below m n low)
  where
    by_order : (m < n) ⊎ (n ≤ m) → (m < n → Among m (below n)) → (n ≡ m) ⊎ Among m (below n)
    by_order (inl low) rest = inr (rest low)
    by_order (inr high) rest = inl (omega arith)

abbrev pub pairs : {A B : Type 0} → List A → List B → List (A × B)
pairs [] ys = []
pairs (x ∷ xs) ys = map (λ y. (x, y)) ys ++ pairs xs ys

pub length_pairs : {A B : Type 0} (xs : List A) (ys : List B) → length (pairs xs ys) ≡ length xs * length ys
length_pairs [] ys = omega arith
length_pairs {A = A} {B = B} (x ∷ xs) ys =
    let more : suc (length xs) * length ys ≡ length xs * length ys + length ys = grind arith in
    let deep : length (pairs xs ys) ≡ length xs * length ys = length_pairs xs ys in
    let with_x : B → A × B = λ y. (x, y) in
    let here : length (map with_x ys) ≡ length ys = length-map ys with_x in
    let both : length (map with_x ys ++ pairs xs ys) ≡ length (map with_x ys) + length (pairs xs ys) = length-append (map with_x ys) (pairs xs ys) in
    omega (arith, more, deep, here, both)

pub among_pairs : {A B : Type 0} (x : A) (y : B) (xs : List A) (ys : List B) → Among x xs → Among y ys → Among {A = A × B} (x, y) (pairs xs ys)
among_pairs x y [] ys h k = absurd h
among_pairs {A = A} {B = B} x y (z ∷ xs) ys (inl is) k =
    among-left {A = A × B} (x, y) (map (λ (w : B). (z, w)) ys) (pairs xs ys) (first is)
  where
    first : z ≡ x → Among {A = A × B} (x, y) (map (λ (w : B). (z, w)) ys)
    first is = moved ys k
      where
        moved : (ws : List B) → Among y ws → Among {A = A × B} (x, y) (map (λ (w : B). (z, w)) ws)
        moved [] h = absurd h
        moved (w ∷ ws) (inl e) = inl (λ i. (is i, e i))
        moved (w ∷ ws) (inr h) = inr (moved ws h)
among_pairs {A = A} {B = B} x y (z ∷ xs) ys (inr h) k = among-right {A = A × B} (x, y) (map (λ (w : B). (z, w)) ys) (pairs xs ys) (among_pairs x y xs ys h k)

-- the numbers of the stages
abbrev pub stage_numbers : List StageSpec → List StageNo
stage_numbers stages = map (λ spec. spec.no) stages

pub stage_among : (stages : List StageSpec) (s : StageNo) (spec : StageSpec) → spec_in stages s ≡ Some spec → Among s (stage_numbers stages)
stage_among [] s spec e = cc
stage_among (x ∷ stages) s spec e = either (same_stage x.no s) refl e (λ f. stage_among stages s spec f)
  where
    either : (b : Bool) → same_stage x.no s ≡ b → (if b then Some x else spec_in stages s) ≡ Some spec → (spec_in stages s ≡ Some spec → Among s (stage_numbers stages)) → (x.no ≡ s) ⊎ Among s (stage_numbers stages)
    either true same e rest = inl (same_stage-true x.no s same)
    either false other e rest = inr (rest e)
