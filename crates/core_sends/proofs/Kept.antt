-- Going through the first units of a queue once.
use Rattle.std.proofs.Common.{◌≡◌, ℕ, zero, suc, ◌+◌, ◌<◌, List, [], ◌∷◌, ◌++◌, length, take, drop, Bool, true, false, refl, ap, sym, ◌∙◌, arith, get_or, if◌then◌else◌}
use Rattle.std.specs.Prelude.{filter, All}
use Rattle.std.proofs.lemmas.List.{append_assoc, append-nil, drop_more, take_more, drop_at, take_at, length-append}
use Rattle.core_sends.specs.Losing.{passed, first_kept}
use mir.Val.{bool_byte}
use Rattle.queue_laws.proofs.Filters.{filter_split}

abbrev pub number : Bool → ℕ
number true = 1
number false = 0

-- so many units were gone through: those kept stand behind the others
pub record Passed (stays : ℕ → Bool) (old queue : List (ℕ × ℕ)) (k kept : ℕ) : Type 0 where
  pub items : queue ≡ drop k old ++ filter (λ unit. stays unit.1) (take k old)
  pub count : length (filter {X = ℕ × ℕ} (λ unit. stays unit.1) (take k old)) ≡ kept

pub passed_none : (stays : ℕ → Bool) (old : List (ℕ × ℕ)) → Passed stays old old 0 0
passed_none stays old = record { items = sym (append-nil old); count = refl }

turn : (stays : ℕ → Bool) (x : ℕ × ℕ) (rest behind : List (ℕ × ℕ)) → passed stays ((x ∷ rest) ++ behind) ≡ rest ++ (behind ++ filter (λ unit. stays unit.1) (x ∷ []))
turn stays x rest behind = by (stays x.1)
  where
    by : (b : Bool) → (if b then (rest ++ behind) ++ x ∷ [] else rest ++ behind) ≡ rest ++ (behind ++ (if b then x ∷ [] else []))
    by true = append_assoc rest behind (x ∷ [])
    by false = ap (λ ys. rest ++ ys) (sym (append-nil behind))

one : (stays : ℕ → Bool) (x : ℕ × ℕ) → length (filter {X = ℕ × ℕ} (λ unit. stays unit.1) (x ∷ [])) ≡ number (stays x.1)
one stays x = by (stays x.1)
  where
    by : (b : Bool) → length (if b then x ∷ [] else []) ≡ number b
    by true = refl
    by false = refl

pub passed_more : (stays : ℕ → Bool) (old queue : List (ℕ × ℕ)) (k kept a : ℕ) → k < length old → a ≡ number (first_kept stays queue)
    → Passed stays old queue k kept → Passed stays old (passed stays queue) (k + 1) (kept + a)
passed_more stays old queue k kept a below is x =
    let P : ℕ × ℕ → Bool = λ unit. stays unit.1 in
    let d : ℕ × ℕ = get_or old k (0, 0) in
    let here : drop k old ≡ d ∷ drop (k + 1) old = drop_more old k (0, 0) below in
    let shape : queue ≡ (d ∷ drop (k + 1) old) ++ filter P (take k old) = x.items ∙ ap (λ (q : List (ℕ × ℕ)). q ++ filter P (take k old)) here in
    let more : filter P (take (k + 1) old) ≡ filter P (take k old) ++ filter P (d ∷ []) = ap (filter P) (take_more old k (0, 0) below) ∙ filter_split P (take k old) (d ∷ []) in
    let first : first_kept stays queue ≡ stays d.1 = ap (first_kept stays) shape in
    let added : a ≡ number (stays d.1) = is ∙ ap number first in
    record {
      items = ap (passed stays) shape ∙ (turn stays d (drop (k + 1) old) (filter P (take k old)) ∙ ap (λ ys. drop (k + 1) old ++ ys) (sym more));
      count = ap length more ∙ (length-append (filter P (take k old)) (filter P (d ∷ [])) ∙ omega (arith, x.count, one stays d, added));
    }

all_kept : (stays : ℕ → Bool) (xs : List (ℕ × ℕ)) → All (λ (unit : ℕ × ℕ). stays unit.1 ≡ true) xs → filter {X = ℕ × ℕ} (λ unit. stays unit.1) xs ≡ xs
all_kept stays [] h = refl
all_kept stays (x ∷ xs) h =
    let rest = all_kept stays xs (λ k e below. h (suc k) e (omega arith)) in
    let first : stays x.1 ≡ true = h 0 x (omega arith) in
    ap (λ b. if b then x ∷ filter {X = ℕ × ℕ} (λ unit. stays unit.1) xs else filter {X = ℕ × ℕ} (λ unit. stays unit.1) xs) first ∙ ap (λ ys. x ∷ ys) rest

whole : (k : ℕ) (xs : List (ℕ × ℕ)) → take k xs ++ drop k xs ≡ xs
whole zero xs = refl
whole (suc k) [] = refl
whole (suc k) (x ∷ xs) = ap (λ ys. x ∷ ys) (whole k xs)

-- at the end those kept go before the others
pub passed_done : (stays : ℕ → Bool) (old queue : List (ℕ × ℕ)) (k kept n : ℕ) → Passed stays old queue k kept
    → All (λ (unit : ℕ × ℕ). stays unit.1 ≡ true) (drop k old) → n + kept ≡ length queue
    → drop n queue ++ take n queue ≡ filter {X = ℕ × ℕ} (λ unit. stays unit.1) old
passed_done stays old queue k kept n x rest sum =
    let P : ℕ × ℕ → Bool = λ unit. stays unit.1 in
    let long : length queue ≡ length (drop k old) + length (filter P (take k old)) = ap length x.items ∙ length-append (drop k old) (filter P (take k old)) in
    let front : length (drop k old) ≡ n = omega (arith, x.count, long, sum) in
    ap (λ q. drop n q ++ take n q) x.items
    ∙ (ap (λ q. q ++ take n (drop k old ++ filter P (take k old))) (drop_at (drop k old) (filter P (take k old)) n front)
    ∙ (ap (λ q. filter P (take k old) ++ q) (take_at (drop k old) (filter P (take k old)) n front)
    ∙ (ap (λ q. filter P (take k old) ++ q) (sym (all_kept stays (drop k old) rest))
    ∙ (sym (filter_split P (take k old) (drop k old)) ∙ ap (filter P) (whole k old)))))

pub byte_is : (b : Bool) → bool_byte b ≡ number b
byte_is true = refl
byte_is false = refl
