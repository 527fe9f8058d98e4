-- What holds of each element of a list, and how many elements pass a test.
use Rattle.std.proofs.Common.{◌≡◌, ℕ, zero, suc, ◌+◌, ◌≤◌, List, [], ◌∷◌, ◌++◌, map, length, take, Bool, true, false, refl, ap, sym, ◌∙◌, subst, Some, add-one, arith}
use Rattle.std.specs.Prelude.{if◌then◌else◌, ◌==◌, ◌||◌, cond, filter, slice_get}
use Rattle.std.proofs.lemmas.Bool.{eqb-true, eq-eqb}
use Rattle.pipe_laws.proofs.Tests.{clash}
use Rattle.pipe_model.specs.Flow.{among}
use Rattle.pipe_model.specs.Counting.{as_number}

abbrev pub Each : {A : Type 0} → (A → Type 0) → List A → Type 0
Each P [] = Unit {0}
Each P (x ∷ xs) = P x × Each P xs

pub each-append : {A : Type 0} (P : A → Type 0) (xs ys : List A) → Each P xs → Each P ys → Each P (xs ++ ys)
each-append P [] ys p q = q
each-append P (x ∷ xs) ys p q = (p.0, each-append P xs ys p.1 q)

pub each_weaker : {A : Type 0} (P Q : A → Type 0) → ((x : A) → P x → Q x) → (xs : List A) → Each P xs → Each Q xs
each_weaker P Q f [] p = tt
each_weaker P Q f (x ∷ xs) p = (f x p.0, each_weaker P Q f xs p.1)

pub each_both : {A : Type 0} (P Q : A → Type 0) (xs : List A) → Each P xs → Each Q xs → Each (λ x. P x × Q x) xs
each_both P Q [] p q = tt
each_both P Q (x ∷ xs) p q = ((p.0, q.0), each_both P Q xs p.1 q.1)

pub each_always : {A : Type 0} (P : A → Type 0) → ((x : A) → P x) → (xs : List A) → Each P xs
each_always P f [] = tt
each_always P f (x ∷ xs) = (f x, each_always P f xs)

pub each_filter : {A : Type 0} (P : A → Type 0) (test : A → Bool) (xs : List A) → Each P xs → Each (λ x. P x × (test x ≡ true)) (filter test xs)
each_filter P test [] p = tt
each_filter P test (x ∷ xs) p = either (test x) refl (each_filter P test xs p.1)
  where
    either : (b : Bool) → test x ≡ b → Each (λ y. P y × (test y ≡ true)) (filter test xs) → Each (λ y. P y × (test y ≡ true)) (cond b (x ∷ filter test xs) (filter test xs))
    either true e rest = ((p.0, e), rest)
    either false e rest = rest

pub each_map : {A B : Type 0} (P : B → Type 0) (f : A → B) (xs : List A) → Each (λ x. P (f x)) xs → Each P (map f xs)
each_map P f [] p = tt
each_map P f (x ∷ xs) p = (p.0, each_map P f xs p.1)

-- how many elements pass
abbrev pub tally : {A : Type 0} → (A → Bool) → List A → ℕ
tally test [] = 0
tally test (x ∷ xs) = if test x then suc (tally test xs) else tally test xs

pub tally-append : {A : Type 0} (test : A → Bool) (xs ys : List A) → tally test (xs ++ ys) ≡ tally test xs + tally test ys
tally-append test [] ys = omega arith
tally-append test (x ∷ xs) ys = either (test x) (tally-append test xs ys)
  where
    either : (b : Bool) → tally test (xs ++ ys) ≡ tally test xs + tally test ys → (if b then suc (tally test (xs ++ ys)) else tally test (xs ++ ys)) ≡ (if b then suc (tally test xs) else tally test xs) + tally test ys
    either true e = omega arith
    either false e = e

-- what passes after passed before, and so did what stops, which passes no more
pub record Drops {A : Type 0} (after stop before : A → Bool) (x : A) : Type 0 where
  pub kept : after x ≡ true → before x ≡ true
  pub stopped : stop x ≡ true → before x ≡ true
  pub apart : stop x ≡ true → after x ≡ false

pub tally_drop : {A : Type 0} (after stop before : A → Bool) (xs : List A) → Each (Drops after stop before) xs → tally after xs + tally stop xs ≤ tally before xs
tally_drop after stop before [] drops = omega arith
tally_drop after stop before (x ∷ xs) drops =
    either (after x) (stop x) (before x) drops.0.kept drops.0.stopped drops.0.apart (tally_drop after stop before xs drops.1)
  where
    either : (a s b : Bool) → (a ≡ true → b ≡ true) → (s ≡ true → b ≡ true) → (s ≡ true → a ≡ false) → tally after xs + tally stop xs ≤ tally before xs → (if a then suc (tally after xs) else tally after xs) + (if s then suc (tally stop xs) else tally stop xs) ≤ (if b then suc (tally before xs) else tally before xs)
    either true true b k s p rest = clash true refl (p refl)
    either true false true k s p rest = omega arith
    either true false false k s p rest = clash false (k refl) refl
    either false true true k s p rest = omega arith
    either false true false k s p rest = clash false (s refl) refl
    either false false true k s p rest = omega arith
    either false false false k s p rest = omega arith

pub tally_le : {A : Type 0} (one other : A → Bool) (xs : List A) → Each (λ x. one x ≡ true → other x ≡ true) xs → tally one xs ≤ tally other xs
tally_le one other [] h = omega arith
tally_le one other (x ∷ xs) h = either (one x) (other x) h.0 (tally_le one other xs h.1)
  where
    either : (a b : Bool) → (a ≡ true → b ≡ true) → tally one xs ≤ tally other xs → (if a then suc (tally one xs) else tally one xs) ≤ (if b then suc (tally other xs) else tally other xs)
    either true true f rest = omega arith
    either true false f rest = clash false (f refl) refl
    either false true f rest = omega arith
    either false false f rest = rest

-- among the first k numbers
pub among_append_left : (xs ys : List ℕ) (n : ℕ) → among xs n ≡ true → among (xs ++ ys) n ≡ true
among_append_left [] ys n h = cc
among_append_left (x ∷ xs) ys n h = either (x == n) h (among_append_left xs ys n)
  where
    either : (b : Bool) → (b || among xs n) ≡ true → (among xs n ≡ true → among (xs ++ ys) n ≡ true) → (b || among (xs ++ ys) n) ≡ true
    either true h rest = refl
    either false h rest = rest h

-- Weights

-- the sum of the elements' weights
abbrev pub weigh : {A : Type 0} → (A → ℕ) → List A → ℕ
weigh f [] = 0
weigh f (x ∷ xs) = f x + weigh f xs

pub weigh-append : {A : Type 0} (f : A → ℕ) (xs ys : List A) → weigh f (xs ++ ys) ≡ weigh f xs + weigh f ys
weigh-append f [] ys = omega arith
weigh-append f (x ∷ xs) ys = omega (arith, weigh-append f xs ys)

-- where each element loses so much, so does the whole
pub weigh_drop : {A : Type 0} (after stop before : A → ℕ) (xs : List A) → Each (λ x. after x + stop x ≤ before x) xs → weigh after xs + weigh stop xs ≤ weigh before xs
weigh_drop after stop before [] h = omega arith
weigh_drop after stop before (x ∷ xs) h = omega (arith, h.0, weigh_drop after stop before xs h.1)

pub weigh_le : {A : Type 0} (one other : A → ℕ) (xs : List A) → Each (λ x. one x ≤ other x) xs → weigh one xs ≤ weigh other xs
weigh_le one other [] h = omega arith
weigh_le one other (x ∷ xs) h = omega (arith, h.0, weigh_le one other xs h.1)

-- the first element that a filter keeps is an element
pub first_kept : {A : Type 0} (P : A → Type 0) (test : A → Bool) (stop : A → ℕ) (xs : List A) (y : A) (ys : List A) → Each P xs → filter test xs ≡ y ∷ ys → (test y ≡ true) × P y × (stop y ≤ weigh stop xs)
first_kept P test stop [] y ys p e = cc
first_kept P test stop (x ∷ xs) y ys p e = either (test x) refl e (first_kept P test stop xs y ys p.1)
  where
    either : (b : Bool) → test x ≡ b → cond b (x ∷ filter test xs) (filter test xs) ≡ y ∷ ys → (filter test xs ≡ y ∷ ys → (test y ≡ true) × P y × (stop y ≤ weigh stop xs)) → (test y ≡ true) × P y × (stop y ≤ stop x + weigh stop xs)
    either true here e rest =
        let same : x ≡ y = cc in
        (ap test (sym same) ∙ here, subst P same p.0, subst (λ z. stop z ≤ stop x + weigh stop xs) same (omega arith))
    either false here e rest = let t = rest e in (t.0, t.1, omega (arith, t.2))

-- The first numbers of a list

pub each_among : (P : ℕ → Type 0) (xs : List ℕ) (n : ℕ) → Each P xs → among xs n ≡ true → P n
each_among P [] n p h = cc
each_among P (x ∷ xs) n p h = either (x == n) refl h (each_among P xs n p.1)
  where
    either : (b : Bool) → (x == n) ≡ b → (b || among xs n) ≡ true → (among xs n ≡ true → P n) → P n
    either true e h rest = subst P (eqb-true x n e) p.0
    either false e h rest = rest h

pub all_among : (xs : List ℕ) → Each (λ n. among xs n ≡ true) xs
all_among [] = tt
all_among (x ∷ xs) =
    (here (x == x) (eq-eqb x x refl), each_weaker (λ n. among xs n ≡ true) (λ n. among (x ∷ xs) n ≡ true) (λ n h. there (x == n) n h) xs (all_among xs))
  where
    here : (b : Bool) → b ≡ true → (b || among xs x) ≡ true
    here true e = refl
    here false e = cc

    there : (b : Bool) (n : ℕ) → among xs n ≡ true → (b || among xs n) ≡ true
    there true n h = refl
    there false n h = h

-- as many of them are among these as are taken
pub weigh_taken : (zs ys : List ℕ) (k : ℕ) → k ≤ length ys → Each (λ n. among zs n ≡ true) (take k ys) → k ≤ weigh (λ n. as_number (among zs n)) ys
weigh_taken zs ys zero le h = omega arith
weigh_taken zs [] (suc k) le h = absurd (omega arith)
weigh_taken zs (y ∷ ys) (suc k) le h =
    let rest : k ≤ weigh (λ n. as_number (among zs n)) ys = weigh_taken zs ys k (omega arith) h.1 in
    let one : as_number (among zs y) ≡ 1 = ap as_number h.0 in
    omega arith

take_suc : {A : Type 0} (xs : List A) (n : ℕ) (x : A) → slice_get xs n ≡ Some x → take (suc n) xs ≡ take n xs ++ x ∷ []
take_suc [] n x e = cc
take_suc (y ∷ xs) zero x e = let is : y ≡ x = cc in ap (λ z. z ∷ []) is
take_suc (y ∷ xs) (suc n) x e = ap (λ z. y ∷ z) (take_suc xs n x e)

-- the first of a list, with one more
pub take_next : {A : Type 0} (xs : List A) (n : ℕ) (x : A) → slice_get xs n ≡ Some x → take (n + 1) xs ≡ take n xs ++ x ∷ []
take_next xs n x e = rw add-one (take_suc xs n x e)
