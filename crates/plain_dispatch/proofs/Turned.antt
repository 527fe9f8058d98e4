-- Units that wait before another, the nearest first.
use Rattle.std.proofs.Common.{◌≡◌, ℕ, ◌+◌, suc, List, [], ◌∷◌, ◌++◌, length, map, true, false, refl, ap, sym, ◌∙◌, arith}
use Rattle.std.specs.Prelude.{Bool, reverse, count_by, cond, nat_le, nat_lt, ◌&&◌}
use Rattle.std.specs.List.{list_all}
use Rattle.std.proofs.lemmas.List.{reverse-append, length-reverse, length-map}
use Rattle.std.proofs.lemmas.Bool.Decides.{nat_tests}
use Rattle.std.proofs.lemmas.List.Sums.{sum_by-cons, sum_by_push}
use Rattle.pipe_types.specs.declared.room.Room.{Room}
use Rattle.pipe_types.specs.Dispatchers.{fit_all, picks_all}

-- how many of a list turned round
pub count_turned : (test : ℕ → Bool) (xs : List ℕ) → count_by test (reverse xs) ≡ count_by test xs
count_turned test [] = refl
count_turned test (x ∷ xs) =
    let f : ℕ → ℕ = λ n. cond (test n) 1 0 in
    let turned : count_by test (reverse (x ∷ xs)) ≡ count_by test (reverse xs ++ x ∷ []) = ap (count_by test) (reverse-append (x ∷ []) xs) in
    let last : count_by test (reverse xs ++ x ∷ []) ≡ count_by test (reverse xs) + f x = sum_by_push f (reverse xs) x in
    let first : count_by test (x ∷ xs) ≡ f x + count_by test xs = sum_by-cons f x xs in
    omega (arith, turned, last, first, count_turned test xs)

pub length_turned : (units : List (ℕ × ℕ)) → length (reverse (map (λ d. d.1) units)) ≡ length units
length_turned units = length-reverse (map (λ d. d.1) units) ∙ length-map units (λ d. d.1)

-- Where every subscription picks every unit

count_each : (xs : List ℕ) → count_by (λ n. true) xs ≡ length xs
count_each [] = refl
count_each (x ∷ xs) =
    let one : count_by (λ n. true) (x ∷ xs) ≡ 1 + count_by (λ n. true) xs = sum_by-cons (λ n. 1) x xs in
    omega (arith, one, count_each xs)

-- a unit fits where every room has more open demand than units wait before it
pub fits_above : (rooms : List Room) (earlier : List ℕ) (mark n : ℕ) → n ≡ length earlier → list_all (λ v. nat_lt n v.left) rooms ≡ fit_all picks_all rooms (mark ∷ earlier)
fits_above [] earlier mark n long = refl
fits_above (v ∷ rooms) earlier mark n long =
    let here : nat_lt n v.left ≡ nat_le (count_by (λ m. picks_all m v.sub) (mark ∷ earlier)) v.left = below n v.left (count_by (λ m. true) (mark ∷ earlier)) (count_each (mark ∷ earlier) ∙ ap suc (sym long)) in
    λ i. here i && fits_above rooms earlier mark n long i
  where
    below : (a b k : ℕ) → k ≡ suc a → nat_lt a b ≡ nat_le k b
    below a b k e = grind (arith, nat_tests)

pub always : (b : Bool) → b ≡ (b && true)
always true = refl
always false = refl
