-- Lists of which each element is changed by its number, and lists with more at the end.
use Rattle.std.proofs.Common.{◌≡◌, ℕ, zero, suc, ◌+◌, ◌-◌, ◌<◌, ◌≤◌, Bool, true, false, List, [], ◌∷◌, ◌++◌, length, drop, get_or, replicate, Option, Some, None, refl, ap, sym, ◌∙◌, append_assoc, arith}
use Rattle.std.proofs.lemmas.Bool.{eqb-true, leb-true, ltb-true, eq-eqb, ne_eqb, lt-ltb, le-ltb, le-leb, lt-leb}
use Rattle.std.proofs.lemmas.List.{drop_more}
use Rattle.std.specs.Prelude.{if◌then◌else◌, ◌==◌, ◌&&◌, nat_lt, nat_le, option_map, slice_get}
use Rattle.pipe_types.specs.declared.message.Place.{Place}
use Rattle.pipe_model.specs.Flow.{accepted_to}
use Rattle.plain_places.specs.Rows.{each_from}

-- the element with number n of a list whose first is number 1
abbrev pub at : {A : Type 0} → List A → ℕ → Option A
at xs n = if nat_lt 0 n then slice_get xs (n - 1) else None

-- Tests of successors

alike : (a b : Bool) → (a ≡ true → b ≡ true) → (b ≡ true → a ≡ true) → a ≡ b
alike true b p q = sym (p refl)
alike false true p q = q refl
alike false false p q = refl

equal_next : (a b : ℕ) → (a == b) ≡ (suc a == suc b)
equal_next a b =
    alike (a == b) (suc a == suc b) (λ h. eq-eqb (suc a) (suc b) (ap suc (eqb-true a b h))) (λ h. let e : suc a ≡ suc b = eqb-true (suc a) (suc b) h in eq-eqb a b (omega arith))

less_next : (a b : ℕ) → nat_lt a b ≡ nat_lt (suc a) (suc b)
less_next a b =
    alike (nat_lt a b) (nat_lt (suc a) (suc b))
    (λ h. let e : a < b = ltb-true a b h in lt-ltb (suc a) (suc b) (omega arith))
    (λ h. let e : suc a < suc b = ltb-true (suc a) (suc b) h in lt-ltb a b (omega arith))

most_next : (a b : ℕ) → nat_le a b ≡ nat_le (suc a) (suc b)
most_next a b =
    alike (nat_le a b) (nat_le (suc a) (suc b))
    (λ h. let e : a ≤ b = leb-true a b h in le-leb (suc a) (suc b) (omega arith))
    (λ h. let e : suc a ≤ suc b = leb-true (suc a) (suc b) h in le-leb a b (omega arith))

never_zero : (i : ℕ) → (suc i == 0) ≡ false
never_zero i = let f : suc i ≡ 0 → ⊥ = λ e. omega (arith, e) in ne_eqb (suc i) 0 f

zero_never : (i : ℕ) → (0 == suc i) ≡ false
zero_never i = let f : 0 ≡ suc i → ⊥ = λ e. omega (arith, e) in ne_eqb 0 (suc i) f

pub at_suc : {A : Type 0} (xs : List A) (i : ℕ) → at xs (suc i) ≡ slice_get xs i
at_suc xs i =
    let t : nat_lt 0 (suc i) ≡ true = lt-ltb 0 (suc i) (omega arith) in
    let e : suc i - 1 ≡ i = omega arith in
    ap (λ b. if b then slice_get xs (suc i - 1) else None) t ∙ ap (slice_get xs) e

-- Changed by number

each_get : {A : Type 0} (f : ℕ → A → A) (n : ℕ) (xs : List A) (i : ℕ) → slice_get (each_from f n xs) i ≡ option_map (f (n + i)) (slice_get xs i)
each_get f n [] i = refl
each_get f n (x ∷ xs) zero = let e : n ≡ n + 0 = omega arith in ap (λ (k : ℕ). Some (f k x)) e
each_get f n (x ∷ xs) (suc i) = let e : n + 1 + i ≡ n + suc i = omega arith in each_get f (n + 1) xs i ∙ ap (λ (k : ℕ). option_map (f k) (slice_get xs i)) e

-- the element with number n is changed as number n
pub at_each : {A : Type 0} (f : ℕ → A → A) (xs : List A) (n : ℕ) → at (each_from f 1 xs) n ≡ option_map (f n) (at xs n)
at_each f xs zero = refl
at_each f xs (suc i) =
    let e : 1 + i ≡ suc i = omega arith in
    at_suc (each_from f 1 xs) i
    ∙ each_get f 1 xs i
    ∙ ap (λ (k : ℕ). option_map (f k) (slice_get xs i)) e
    ∙ ap (option_map (f (suc i))) (sym (at_suc xs i))

pub length_each : {A : Type 0} (f : ℕ → A → A) (n : ℕ) (xs : List A) → length (each_from f n xs) ≡ length xs
length_each f n [] = refl
length_each f n (x ∷ xs) = ap suc (length_each f (n + 1) xs)

-- one element more
pub each_more : {A : Type 0} (f : ℕ → A → A) (all front xs : List A) (i : ℕ) (x y : A) → i < length xs → x ≡ get_or xs i x → y ≡ f (i + 1) x
    → front ++ each_from f (i + 1) (drop i xs) ≡ all → (front ++ y ∷ []) ++ each_from f (i + 1 + 1) (drop (i + 1) xs) ≡ all
each_more f all front xs i x y within is new old =
    append_assoc front (y ∷ []) (each_from f (i + 1 + 1) (drop (i + 1) xs))
    ∙ ap (λ z. front ++ z ∷ each_from f (i + 1 + 1) (drop (i + 1) xs)) new
    ∙ ap (λ ys. front ++ each_from f (i + 1) ys) (sym (drop_more xs i x within ∙ ap (λ z. z ∷ drop (i + 1) xs) (sym is)))
    ∙ old

-- More at the end

last_get : {A : Type 0} (xs : List A) (y : A) (i : ℕ) → slice_get (xs ++ y ∷ []) i ≡ (if i == length xs then Some y else slice_get xs i)
last_get [] y zero = refl
last_get [] y (suc i) = ap (λ b. if b then Some y else None) (sym (never_zero i))
last_get (x ∷ xs) y zero = ap (λ b. if b then Some y else Some x) (sym (zero_never (length xs)))
last_get (x ∷ xs) y (suc i) = last_get xs y i ∙ ap (λ b. if b then Some y else slice_get xs i) (equal_next i (length xs))

-- one more
pub at_last : {A : Type 0} (xs : List A) (y : A) (n : ℕ) → at (xs ++ y ∷ []) n ≡ (if n == length xs + 1 then Some y else at xs n)
at_last xs y zero =
    let e : suc (length xs) ≡ length xs + 1 = omega arith in
    ap (λ b. if b then Some y else None) (sym (zero_never (length xs)) ∙ ap (λ (k : ℕ). 0 == k) e)
at_last xs y (suc i) =
    let e : suc (length xs) ≡ length xs + 1 = omega arith in
    at_suc (xs ++ y ∷ []) i
    ∙ last_get xs y i
    ∙ ap (λ b. if b then Some y else slice_get xs i) (equal_next i (length xs) ∙ ap (λ (k : ℕ). suc i == k) e)
    ∙ ap (λ o. if suc i == length xs + 1 then Some y else o) (sym (at_suc xs i))

replicated : (k : ℕ) (p : Place) (i : ℕ) → slice_get (replicate k p) i ≡ (if nat_le (suc i) k then Some p else None)
replicated zero p i = ap (λ b. if b then Some p else None) (sym (lt-leb (suc i) 0 (omega arith)))
replicated (suc k) p zero = ap (λ b. if b then Some p else None) (sym (le-leb 1 (suc k) (omega arith)))
replicated (suc k) p (suc i) = replicated k p i ∙ ap (λ b. if b then Some p else None) (most_next (suc i) k)

more_get : (places : List Place) (k : ℕ) (p : Place) (i : ℕ) → slice_get (places ++ replicate k p) i ≡ accepted_to (length places) k p (suc i) (slice_get places i)
more_get [] k p i =
    let e : k ≡ 0 + k = omega arith in
    replicated k p i
    ∙ ap (λ (m : ℕ). if nat_le (suc i) m then Some p else None) e
    ∙ ap (λ b. if b && nat_le (suc i) (0 + k) then Some p else None) (sym (lt-ltb 0 (suc i) (omega arith)))
more_get (q ∷ places) k p zero = refl
more_get (q ∷ places) k p (suc i) = more_get places k p i ∙ by (slice_get places i)
  where
    by : (o : Option Place) → accepted_to (length places) k p (suc i) o ≡ accepted_to (suc (length places)) k p (suc (suc i)) o
    by (Some r) = refl
    by None =
        let e : suc (length places + k) ≡ suc (length places) + k = omega arith in
        ap (λ b. if b && nat_le (suc i) (length places + k) then Some p else None) (less_next (length places) (suc i))
        ∙ ap (λ b. if nat_lt (suc (length places)) (suc (suc i)) && b then Some p else None) (most_next (suc i) (length places + k) ∙ ap (nat_le (suc (suc i))) e)

-- so many more, all of one place
pub at_added : (places : List Place) (k : ℕ) (p : Place) (n : ℕ) → at (places ++ replicate k p) n ≡ accepted_to (length places) k p n (at places n)
at_added places k p zero = ap (λ b. if b && nat_le 0 (length places + k) then Some p else None) (sym (le-ltb (length places) 0 (omega arith)))
at_added places k p (suc i) = at_suc (places ++ replicate k p) i ∙ more_get places k p i ∙ ap (accepted_to (length places) k p (suc i)) (sym (at_suc places i))
