-- Sums over places.
use Rattle.std.proofs.Common.{◌≡◌, ℕ, zero, suc, ◌+◌, ◌*◌, ◌/◌, ◌%◌, ◌<◌, ◌≤◌, min, Bool, true, false, nat_lt, if◌then◌else◌, arith, refl, ap, sym, ◌∙◌, inl, inr, ◌⊎◌}
use Rattle.std.proofs.lemmas.Bool.{ltb-true, ltb-false}
use Rattle.rate_laws.specs.Rates.{share_of}

abbrev pub total : (f : ℕ → ℕ) → ℕ → ℕ
total f zero = 0
total f (suc n) = total f n + f n

pub total_zero : (n : ℕ) → total (λ k. 0) n ≡ 0
total_zero zero = refl
total_zero (suc n) = let h = total_zero n in omega (arith, h)

pub total_same : (f g : ℕ → ℕ) (n : ℕ) → ((k : ℕ) → k < n → g k ≡ f k) → total g n ≡ total f n
total_same f g zero h = refl
total_same f g (suc n) h =
    let before = total_same f g n (λ k low. h k (omega (arith, low))) in
    let last = h n (omega arith) in
    omega (arith, before, last)

-- below or at
low_or_last : (a n : ℕ) → a < suc n → (a < n) ⊎ (a ≡ n)
low_or_last a n h = Prim.grind arith

-- one more at one place
pub total_one : (f g : ℕ → ℕ) (n s x : ℕ) → s < n → g s ≡ f s + x → ((k : ℕ) → (k ≡ s → ⊥) → g k ≡ f k) → total g n ≡ total f n + x
total_one f g zero s x low here others = absurd (omega (arith, low))
total_one f g (suc n) s x low here others = by (low_or_last s n low) (λ earlier. total_one f g n s x earlier here others)
  where
    by : (s < n) ⊎ (s ≡ n) → (s < n → total g n ≡ total f n + x) → total g n + g n ≡ total f n + f n + x
    by (inl earlier) more =
        let before = more earlier in
        let last = others n (λ is. omega (arith, is, earlier)) in
        omega (arith, before, last)
    by (inr is) more =
        let before = total_same f g n (λ k less. others k (λ same. omega (arith, same, is, less))) in
        let last : g n ≡ f n + x = ap g (sym is) ∙ here ∙ ap (λ k. f k + x) is in
        omega (arith, before, last)

-- ---- the shares make up the allowance

abbrev one_more : (q r k : ℕ) → ℕ
one_more q r k = if nat_lt k r then q + 1 else q

total_more : (q r m : ℕ) → total (one_more q r) m ≡ m * q + min m r
total_more q r zero = omega arith
total_more q r (suc m) =
    let before = total_more q r m in
    by (nat_lt m r) refl before
  where
    by : (b : Bool) → nat_lt m r ≡ b → total (one_more q r) m ≡ m * q + min m r → total (one_more q r) m + (if b then q + 1 else q) ≡ suc m * q + min (suc m) r
    by true e before = let low = ltb-true m r e in omega (arith, before, low)
    by false e before = let high = ltb-false m r e in omega (arith, before, high)

pub shares_make : (allowed producers : ℕ) → 1 ≤ producers → total (λ k. share_of allowed producers k) producers ≡ allowed
shares_make allowed producers some =
    let all = total_more (allowed / producers) (allowed % producers) producers in
    omega (arith, some, all)
