-- What the demand rule sends of one unit, and of the units that one room takes.
use Rattle.std.proofs.Common.{◌≡◌, ℕ, ◌+◌, ◌-◌, ◌<◌, ◌≤◌, ◌⊎◌, ⊎_elim, inl, inr, List, [], ◌∷◌, ◌++◌, length, get_or, take, min, suc, zero, ap, sym, ◌∙◌, arith, append_assoc}
use Rattle.std.specs.Prelude.{Bool, true, false, filter, sum_by, nat_lt, nat_le, ◌&&◌, if◌then◌else◌}
use Rattle.std.specs.List.Sorted.{IsPermutation, IsSortedBy}
use Rattle.std.proofs.lemmas.Bool.{cases_lt}
use Rattle.std.proofs.lemmas.Bool.Decides.{nat_tests}
use Rattle.std.proofs.lemmas.List.{append-nil, take-take}
use Rattle.std.proofs.lemmas.List.Sorted.{sum_by-IsPermutation, sorted_far}
use Rattle.std.proofs.lemmas.List.Sums.{sum_by_more, sum_by-take-le}
use Rattle.pipe_types.specs.declared.room.Room.{Room}
use Rattle.pipe_types.specs.declared.room.Sent.{Sent}
use Rattle.pipe_types.specs.Dispatchers.{ByDemand}
use Rattle.pipe_types.specs.Dispatchers.{ahead, is_served_before, on_each}
use Rattle.pipe_types.specs.Rooms.{AreAscending}
use Rattle.pipe_types.proofs.Sends.{sends_of, sends_of_unit, sends_of_more, sends_of_stop, length-turned_places}
use Rattle.dispatch_demand.specs.Run.{run}
use Rattle.pipe_types.proofs.Serving.{is_served_before_ranks}
use Rattle.dispatch_demand.proofs.Order.{served_in_turn}
use Rattle.dispatch_demand.proofs.Singles.{sum_of_front, filter_single, filter_empty}

-- these rooms, in the order in which they are served
pub record Serves (rooms order : List Room) : Type 0 where
  pub ascending : AreAscending rooms
  pub same : IsPermutation rooms order
  pub sorted : IsSortedBy is_served_before order

abbrev pub demand : List Room → ℕ
demand rooms = sum_by (λ u. u.left) rooms

demand_rises : (order : List Room) (m n : ℕ) → m ≤ n → demand (take m order) ≤ demand (take n order)
demand_rises order m n le =
    let front : demand (take m (take n order)) ≤ demand (take n order) = sum_by-take-le (λ u. u.left) (take n order) m in
    let same : demand (take m (take n order)) ≡ demand (take m order) = ap demand (take-take m n order le) in
    omega arith

if_true : (b : Bool) (n : ℕ) → b ≡ true → (if b then n else 0) ≡ n
if_true b n h = rw h

if_false : (b : Bool) (n : ℕ) → b ≡ false → (if b then n else 0) ≡ 0
if_false b n h = rw h

-- what is ahead of a room is the demand of the rooms that are served before it
ahead_at : (rooms order : List Room) → Serves rooms order → (k : ℕ) (e : Room) → k < length order → ahead rooms (get_or order k e) ≡ demand (take k order)
ahead_at rooms order serves k e within =
    sym (sum_by-IsPermutation counted rooms order serves.same)
    ∙ sum_of_front counted (λ u. u.left) order k e
    (λ i w below. if_true _ _ (served_in_turn rooms order serves.ascending serves.same serves.sorted i k e below within))
    (λ i w past. if_false _ _ (sorted_far is_served_before is_served_before_ranks order serves.sorted k i e past w))
  where
    counted : Room → ℕ
    counted v = if is_served_before v (get_or order k e) then v.left else 0

abbrev takes : List Room → (place : ℕ) → Room → Bool
takes rooms j u = nat_le (ahead rooms u) j && nat_lt j (ahead rooms u + u.left)

window : (a j l : ℕ) → a ≤ j → j < a + l → (nat_le a j && nat_lt j (a + l)) ≡ true
window a j l low high = grind (arith, nat_tests)

outside : (a j l : ℕ) → (j < a) ⊎ (a + l ≤ j) → (nat_le a j && nat_lt j (a + l)) ≡ false
outside a j l h = grind (arith, nat_tests)

-- a unit within the demand of one room goes there and nowhere else
goes_to : (rooms order : List Room) → Serves rooms order → (i j : ℕ) (e : Room) → i < length order → demand (take i order) ≤ j → j < demand (take i order) + (get_or order i e).left → filter (takes rooms j) rooms ≡ get_or order i e ∷ []
goes_to rooms order serves i j e within low high =
    filter_single (takes rooms j) rooms order i e serves.same within
    (let front : ahead rooms (get_or order i e) ≡ demand (take i order) = ahead_at rooms order serves i e within in
    window _ j _ (omega arith) (omega arith))
    (λ k w apart. outside _ j _ (⊎_elim (λ lt. inr (before k w lt)) (λ le. inl (after k w (omega arith))) (cases_lt k i)))
  where
    before : (k : ℕ) → k < length order → k < i → ahead rooms (get_or order k e) + (get_or order k e).left ≤ j
    before k w lt =
        let front : ahead rooms (get_or order k e) ≡ demand (take k order) = ahead_at rooms order serves k e w in
        let more : demand (take (k + 1) order) ≡ demand (take k order) + (get_or order k e).left = sum_by_more (λ u. u.left) order k e w in
        let rise : demand (take (k + 1) order) ≤ demand (take i order) = demand_rises order (k + 1) i (omega arith) in
        omega arith

    after : (k : ℕ) → k < length order → i < k → j < ahead rooms (get_or order k e)
    after k w lt =
        let front : ahead rooms (get_or order k e) ≡ demand (take k order) = ahead_at rooms order serves k e w in
        let more : demand (take (i + 1) order) ≡ demand (take i order) + (get_or order i e).left = sum_by_more (λ u. u.left) order i e within in
        let rise : demand (take (i + 1) order) ≤ demand (take k order) = demand_rises order (i + 1) k (omega arith) in
        omega arith

-- a unit past all demand goes nowhere
goes_nowhere : (rooms order : List Room) → Serves rooms order → (j : ℕ) → demand order ≤ j → filter (takes rooms j) rooms ≡ []
goes_nowhere rooms order serves j past =
    filter_empty (takes rooms j) rooms order serves.same (λ k e w. outside _ j _ (inr (before k e w)))
  where
    before : (k : ℕ) (e : Room) → k < length order → ahead rooms (get_or order k e) + (get_or order k e).left ≤ j
    before k e w =
        let front : ahead rooms (get_or order k e) ≡ demand (take k order) = ahead_at rooms order serves k e w in
        let more : demand (take (k + 1) order) ≡ demand (take k order) + (get_or order k e).left = sum_by_more (λ u. u.left) order k e w in
        let rise : demand (take (k + 1) order) ≤ demand order = sum_by-take-le (λ u. u.left) order (k + 1) in
        omega arith

sends_of_place : (rooms : List Room) (j : ℕ) → sends_of_unit ByDemand rooms j ≡ on_each j (filter (takes rooms j) rooms)
sends_of_place rooms j = ap (λ (n : ℕ). on_each j (filter (takes rooms n) rooms)) (length-turned_places j)

sends_of_run : (rooms : List Room) (x : Room) (first count : ℕ) → ((j : ℕ) → first ≤ j → j < first + count → sends_of_unit ByDemand rooms j ≡ on_each j (x ∷ [])) → sends_of ByDemand rooms (first + count) ≡ sends_of ByDemand rooms first ++ run first count x.sub
sends_of_run rooms x first zero each =
    ap (λ (n : ℕ). sends_of ByDemand rooms n) (omega arith) ∙ sym (append-nil (sends_of ByDemand rooms first))
sends_of_run rooms x first (suc n) each =
    let place : first + suc n ≡ (first + n) + 1 = omega arith in
    ap (λ (m : ℕ). sends_of ByDemand rooms m) place
    ∙ sends_of_more ByDemand rooms (first + n)
    ∙ ap (λ (l : List Sent). sends_of ByDemand rooms (first + n) ++ l) (each (first + n) (omega arith) (omega arith))
    ∙ ap (λ (l : List Sent). l ++ on_each (first + n) (x ∷ [])) (sends_of_run rooms x first n (λ j low high. each j low (omega arith)))
    ∙ append_assoc (sends_of ByDemand rooms first) (run first n x.sub) (on_each (first + n) (x ∷ []))

-- the next room in the order of serving takes as many of the rest as it asked for
pub one_served : (rooms order : List Room) → Serves rooms order → (waiting next count i : ℕ) (e : Room) → i < length order → next ≡ min waiting (demand (take i order)) → count ≡ min (get_or order i e).left (waiting - next) → (old new : List Sent) → old ≡ sends_of ByDemand rooms next → new ≡ old ++ run next count (get_or order i e).sub → new ≡ sends_of ByDemand rooms (next + count)
one_served rooms order serves waiting next count i e within so_far takes_now old new before now =
    now
    ∙ ap (λ (l : List Sent). l ++ run next count (get_or order i e).sub) before
    ∙ sym (sends_of_run rooms (get_or order i e) next count
    (λ j low high. sends_of_place rooms j
    ∙ ap (λ (l : List Room). on_each j l) (goes_to rooms order serves i j e within (omega arith) (omega arith))))

pub demand_more : (order : List Room) (waiting next count i : ℕ) (e : Room) → i < length order → next ≡ min waiting (demand (take i order)) → count ≡ min (get_or order i e).left (waiting - next) → next + count ≡ min waiting (demand (take (i + 1) order))
demand_more order waiting next count i e within so_far takes_now =
    let more : demand (take (i + 1) order) ≡ demand (take i order) + (get_or order i e).left = sum_by_more (λ u. u.left) order i e within in
    omega arith

-- when every room is served nothing more is sent
pub all_served : (rooms order : List Room) → Serves rooms order → (waiting next : ℕ) → next ≡ min waiting (demand order) → sends_of ByDemand rooms next ≡ sends_of ByDemand rooms waiting
all_served rooms order serves waiting next so_far = ⊎_elim more done (cases_lt next waiting)
  where
    done : waiting ≤ next → sends_of ByDemand rooms next ≡ sends_of ByDemand rooms waiting
    done le = ap (λ (n : ℕ). sends_of ByDemand rooms n) (omega arith)

    more : next < waiting → sends_of ByDemand rooms next ≡ sends_of ByDemand rooms waiting
    more lt =
        let rest : next + (waiting - next) ≡ waiting = omega arith in
        sym (sends_of_stop ByDemand rooms next (waiting - next) none) ∙ ap (λ (n : ℕ). sends_of ByDemand rooms n) rest
      where
        none : (j : ℕ) → next ≤ j → sends_of_unit ByDemand rooms j ≡ []
        none j le = sends_of_place rooms j ∙ ap (λ (l : List Room). on_each j l) (goes_nowhere rooms order serves j (omega arith))
