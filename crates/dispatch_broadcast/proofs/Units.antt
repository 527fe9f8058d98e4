-- What the broadcast rule sends of one unit.
use Rattle.std.proofs.Common.{length, ◌≡◌, ℕ, ◌+◌, ◌<◌, ◌≤◌, ◌-◌, ⊎_elim, List, [], ◌∷◌, ◌++◌, refl, ap, sym, ◌∙◌, arith, min}
use Rattle.std.specs.Prelude.{Bool, true, false, filter, fold, nat_lt, nat_le, cond, count_by, replicate, ◌&&◌, if◌then◌else◌}
use Rattle.std.specs.List.{list_all}
use Rattle.std.proofs.lemmas.List.Sums.{sum_by-cons}
use Rattle.std.proofs.lemmas.Bool.{cases_lt}
use Rattle.std.proofs.lemmas.Bool.Decides.{nat_tests}
use Rattle.pipe_types.specs.declared.room.Room.{Room}
use Rattle.pipe_types.specs.declared.room.Sent.{Sent}
use Rattle.pipe_types.specs.Dispatchers.{ByBroadcast, picks_all, fit_all, on_each}
use Rattle.pipe_types.proofs.Sends.{turned, sends_of, sends_of_unit, sends_of_more, sends_of_stop, length-turned_places}
use Rattle.dispatch_broadcast.specs.Least.{least_left}

all_or_none : (b : Bool) (rooms : List Room) → filter (λ _. b) rooms ≡ (if b then rooms else [])
all_or_none true [] = refl
all_or_none true (u ∷ rooms) = ap (λ (l : List Room). u ∷ l) (all_or_none true rooms)
all_or_none false [] = refl
all_or_none false (u ∷ rooms) = all_or_none false rooms

below_both : (j a b : ℕ) (rest : Bool) → (nat_lt j a && (nat_lt j b && rest)) ≡ (nat_lt j (min a b) && rest)
below_both j a b rest = grind (arith, nat_tests)

below_each : (j least : ℕ) (rooms : List Room) → (nat_lt j least && list_all (λ v. nat_lt j v.left) rooms) ≡ nat_lt j (fold (λ a v. min a v.left) least rooms)
below_each j least [] = grind (arith, nat_tests)
below_each j least (u ∷ rooms) = below_both j least u.left (list_all (λ v. nat_lt j v.left) rooms) ∙ below_each j (min least u.left) rooms

-- a unit goes to every room exactly where it is below the least open demand
unit_goes : (rooms : List Room) (j : ℕ) → filter (λ _. list_all (λ v. nat_lt j v.left) rooms) rooms ≡ (if nat_lt j (least_left rooms) then rooms else [])
unit_goes [] j = grind (arith, nat_tests)
unit_goes (u ∷ rooms) j =
    ap (λ (b : Bool). filter (λ _. b) (u ∷ rooms)) (below_each j u.left rooms)
    ∙ all_or_none (nat_lt j (least_left (u ∷ rooms))) (u ∷ rooms)

-- who picks every unit gets as many as wait
count_all : (xs : List ℕ) → count_by (λ n. true) xs ≡ length xs
count_all [] = refl
count_all (x ∷ xs) = let one = sum_by-cons (λ (n : ℕ). cond true 1 0) x xs in omega (arith, one, count_all xs)

fits_below : (xs : List ℕ) (rooms : List Room) → fit_all picks_all rooms (0 ∷ xs) ≡ list_all (λ v. nat_lt (length xs) v.left) rooms
fits_below xs [] = refl
fits_below xs (u ∷ rooms) = λ i. here i && fits_below xs rooms i
  where
    below : (k n left : ℕ) → k ≡ n + 1 → nat_le k left ≡ nat_lt n left
    below k n left e = grind (arith, nat_tests)

    here : nat_le (count_by (λ n. true) (0 ∷ xs)) u.left ≡ nat_lt (length xs) u.left
    here = below (count_by (λ n. true) (0 ∷ xs)) (length xs) u.left (let all = count_all (0 ∷ xs) in omega (arith, all))

sends_of_place : (rooms : List Room) (n : ℕ) → sends_of_unit (ByBroadcast picks_all) rooms n ≡ on_each n (if nat_lt n (least_left rooms) then rooms else [])
sends_of_place rooms n =
    ap (λ (b : Bool). on_each n (filter (λ _. b) rooms)) (and_same (fit_all picks_all rooms (0 ∷ turned (replicate n 0) [])) ∙ fits_below (turned (replicate n 0) []) rooms)
    ∙ ap (λ (j : ℕ). on_each n (filter (λ _. list_all (λ v. nat_lt j v.left) rooms) rooms)) (length-turned_places n)
    ∙ ap (λ (l : List Room). on_each n l) (unit_goes rooms n)
  where
    and_same : (b : Bool) → (b && true) ≡ b
    and_same true = refl
    and_same false = refl

if_true : (b : Bool) (rooms : List Room) → b ≡ true → (if b then rooms else []) ≡ rooms
if_true b rooms h = rw h

if_false : (b : Bool) (rooms : List Room) → b ≡ false → (if b then rooms else []) ≡ []
if_false b rooms h = rw h

-- one more unit, below the least open demand, goes to everyone
pub one_more : (rooms : List Room) (n : ℕ) → n < least_left rooms → sends_of (ByBroadcast picks_all) rooms (n + 1) ≡ sends_of (ByBroadcast picks_all) rooms n ++ on_each n rooms
one_more rooms n h =
    let below : nat_lt n (least_left rooms) ≡ true = grind (arith, nat_tests) in
    sends_of_more (ByBroadcast picks_all) rooms n
    ∙ ap (λ (l : List Sent). sends_of (ByBroadcast picks_all) rooms n ++ l) (sends_of_place rooms n)
    ∙ ap (λ (l : List Room). sends_of (ByBroadcast picks_all) rooms n ++ on_each n l) (if_true _ rooms below)

none_at : (rooms : List Room) (n : ℕ) → least_left rooms ≤ n → sends_of_unit (ByBroadcast picks_all) rooms n ≡ []
none_at rooms n h =
    let past : nat_lt n (least_left rooms) ≡ false = grind (arith, nat_tests) in
    sends_of_place rooms n ∙ ap (λ (l : List Room). on_each n l) (if_false _ rooms past)

-- no unit past the least open demand goes anywhere
pub all_sent : (rooms : List Room) (count waiting : ℕ) → count ≡ min (least_left rooms) waiting → sends_of (ByBroadcast picks_all) rooms count ≡ sends_of (ByBroadcast picks_all) rooms waiting
all_sent rooms count waiting h = ⊎_elim many few (cases_lt count waiting)
  where
    few : waiting ≤ count → sends_of (ByBroadcast picks_all) rooms count ≡ sends_of (ByBroadcast picks_all) rooms waiting
    few le = ap (λ (n : ℕ). sends_of (ByBroadcast picks_all) rooms n) (omega arith)

    many : count < waiting → sends_of (ByBroadcast picks_all) rooms count ≡ sends_of (ByBroadcast picks_all) rooms waiting
    many lt =
        let least : count ≡ least_left rooms = omega arith in
        let rest : count + (waiting - count) ≡ waiting = omega arith in
        let none : (j : ℕ) → count ≤ j → sends_of_unit (ByBroadcast picks_all) rooms j ≡ [] = λ j le. none_at rooms j (omega arith) in
        sym (sends_of_stop (ByBroadcast picks_all) rooms count (waiting - count) none) ∙ ap (λ (n : ℕ). sends_of (ByBroadcast picks_all) rooms n) rest
