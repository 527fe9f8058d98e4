-- What a broadcast plans, from picks by the places of the units and of the rooms.
use Rattle.std.proofs.Common.{◌≡◌, ℕ, ◌+◌, ◌<◌, List, [], ◌∷◌, ◌++◌, Bool, true, false, refl, sym, ◌∙◌, cond, zero, suc, ◌≤◌, arith, take, get_or, map, length, ap}
use Rattle.std.specs.Prelude.{filter, count_by, nat_le, ◌&&◌, if◌then◌else◌}
use Rattle.std.proofs.lemmas.List.Sums.{sum_by-cons}
use Rattle.pipe_types.specs.declared.numbers.SubNo.{SubNo}
use Rattle.pipe_types.specs.declared.room.Room.{Room}
use Rattle.pipe_types.specs.Dispatchers.{Serving, is_served, served_as, mark_of, serves_by_place, sends_by_place, ByBroadcast, fit_all, has_rooms, on_each, sends_from, serves_from}
use Rattle.pipe_types.specs.declared.numbers.StageNo.{StageNo}
use Rattle.pipe_types.specs.declared.topology.Topology.{Topology}
use Rattle.pipe_types.specs.declared.topology.Dispatch.TheVariants.{Broadcast}
use Rattle.pipe_types.specs.Stages.{spec_of}
use Rattle.pipe_model.specs.History.{History}
use Rattle.pipe_model.specs.Flow.{view_of, waiting, kind_in, picks_by, serving_by, rooms_by, partition_in}
use Rattle.core_laws.specs.Columns.{is_broadcast}
use Rattle.core_sends.specs.Rooms.{planned, served_first, marks_of}
use Rattle.pipe_laws.proofs.Lists.{Each, each_weaker}
use Rattle.queue_laws.proofs.Filters.{filter_each}
use Rattle.std.specs.List.{enumerate_from}
use Rattle.std.proofs.lemmas.List.{take_more, take_all, append-nil}
use Rattle.dispatch_broadcast.specs.Picks.{places}
use Rattle.core_sends.proofs.Picked.{placed, sends_placed, serves_placed}

-- the two agree on the first so many units, for each of the rooms
abbrev pub Agree : (p q : ℕ → SubNo → Bool) → (k : ℕ) → List Room → Type 0
Agree p q k rooms = Each (λ (r : Room). (n : ℕ) → n < k → p n r.sub ≡ q n r.sub) rooms

fit_alike : (p q : ℕ → SubNo → Bool) (k : ℕ) (rooms : List Room) (units : List ℕ) → Agree p q k rooms → Each (λ n. n < k) units → fit_all p rooms units ≡ fit_all q rooms units
fit_alike p q k [] units same low = refl
fit_alike p q k (v ∷ rooms) units same low = λ i. nat_le (counts units low i) v.left && fit_alike p q k rooms units same.1 low i
  where
    counts : (ns : List ℕ) → Each (λ n. n < k) ns → count_by (λ n. p n v.sub) ns ≡ count_by (λ n. q n v.sub) ns
    counts [] h = refl
    counts (n ∷ ns) h =
        sum_by-cons (λ m. cond (p m v.sub) 1 0) n ns
        ∙ ((λ i. cond (same.0 n h.0 i) 1 0 + counts ns h.1 i) ∙ sym (sum_by-cons (λ m. cond (q m v.sub) 1 0) n ns))

pub sends_alike : (p q : ℕ → SubNo → Bool) (k : ℕ) (rooms : List Room) (earlier : List ℕ) (units : List (ℕ × ℕ)) → Agree p q k rooms → Each (λ n. n < k) earlier → Each (λ (u : ℕ × ℕ). u.1 < k) units
    → sends_from (ByBroadcast p) rooms earlier units ≡ sends_from (ByBroadcast q) rooms earlier units
sends_alike p q k rooms earlier [] same low below = refl
sends_alike p q k rooms earlier (u ∷ units) same low below =
    λ i. on_each u.0 (here i) ++ sends_alike p q k rooms (u.1 ∷ earlier) units same (below.0, low) below.1 i
  where
    here : filter (λ (r : Room). fit_all p rooms (u.1 ∷ earlier) && p u.1 r.sub) rooms ≡ filter (λ (r : Room). fit_all q rooms (u.1 ∷ earlier) && q u.1 r.sub) rooms
    here =
        filter_each (λ (r : Room). fit_all q rooms (u.1 ∷ earlier) && q u.1 r.sub) (λ (r : Room). fit_all p rooms (u.1 ∷ earlier) && p u.1 r.sub) rooms
        (each_weaker (λ (r : Room). (n : ℕ) → n < k → p n r.sub ≡ q n r.sub) (λ (r : Room). (fit_all p rooms (u.1 ∷ earlier) && p u.1 r.sub) ≡ (fit_all q rooms (u.1 ∷ earlier) && q u.1 r.sub))
        (λ r h. λ i. fit_alike p q k rooms (u.1 ∷ earlier) same (below.0, low) i && h u.1 below.0 i) rooms same)

pub serves_alike : (p q : ℕ → SubNo → Bool) (k : ℕ) (rooms : List Room) (earlier : List ℕ) (units : List (ℕ × ℕ)) → Agree p q k rooms → Each (λ n. n < k) earlier → Each (λ (u : ℕ × ℕ). u.1 < k) units
    → serves_from (ByBroadcast p) rooms earlier units ≡ serves_from (ByBroadcast q) rooms earlier units
serves_alike p q k rooms earlier [] same low below = refl
serves_alike p q k rooms earlier (u ∷ units) same low below =
    let fit = fit_alike p q k rooms (u.1 ∷ earlier) same (below.0, low) in
    let rest = serves_alike p q k rooms (u.1 ∷ earlier) units same (below.0, low) below.1 in
    λ i. if has_rooms rooms && fit i then u.0 ∷ rest i else rest i

-- The places of what waits

pub low_places : (n k : ℕ) → n ≤ k → Each (λ m. m < k) (places n)
low_places zero k h = tt
low_places (suc n) k h = behind (places n) (low_places n k (omega (arith, h)))
  where
    behind : (ns : List ℕ) → Each (λ m. m < k) ns → Each (λ m. m < k) (ns ++ n ∷ [])
    behind [] e = (omega (arith, h), tt)
    behind (m ∷ ns) e = (e.0, behind ns e.1)

pub low_units : (k from : ℕ) (ns : List ℕ) → Each (λ m. m < k) ns → Each (λ (u : ℕ × ℕ). u.1 < k) (enumerate_from from ns)
low_units k from [] h = tt
low_units k from (n ∷ ns) h = (h.0, low_units k (from + 1) ns h.1)

mapped_units : (f : ℕ → ℕ) (from : ℕ) (ns : List ℕ) → map {B = ℕ × ℕ} (λ (u : ℕ × ℕ). (u.0, f u.1)) (enumerate_from from ns) ≡ enumerate_from from (map f ns)
mapped_units f from [] = refl
mapped_units f from (n ∷ ns) = ap (λ us. (from, f n) ∷ us) (mapped_units f (from + 1) ns)

map_more : (f : ℕ → ℕ) (xs : List ℕ) (x : ℕ) → map f (xs ++ x ∷ []) ≡ map f xs ++ f x ∷ []
map_more f [] x = refl
map_more f (y ∷ xs) x = ap (λ ys. f y ∷ ys) (map_more f xs x)

first_at : (ws : List ℕ) (k : ℕ) → k ≤ length ws → map (λ j. get_or ws j 0) (places k) ≡ take k ws
first_at ws zero h = refl
first_at ws (suc k) h =
    let next : k + 1 ≡ suc k = omega arith in
    map_more (λ j. get_or ws j 0) (places k) k
    ∙ (ap (λ ns. ns ++ get_or ws k 0 ∷ []) (first_at ws k (omega (arith, h))) ∙ (sym (take_more ws k 0 (omega (arith, h))) ∙ ap (λ m. take m ws) next))

pub all_at : (ws : List ℕ) → map (λ j. get_or ws j 0) (places (length ws)) ≡ ws
all_at ws = first_at ws (length ws) (omega arith) ∙ take_all (length ws) ws (omega arith)

-- what is sent and served of the places is what is sent and served of the units
pub sends_joined : (p q : ℕ → SubNo → Bool) (rooms : List Room) (ws : List ℕ) → Agree p (placed (λ j. get_or ws j 0) q) (length ws) rooms
    → sends_by_place (ByBroadcast p) rooms (places (length ws)) ≡ sends_by_place (ByBroadcast q) rooms ws
sends_joined p q rooms ws same =
    sends_alike p (placed (λ j. get_or ws j 0) q) (length ws) rooms [] (enumerate_from 0 (places (length ws))) same tt (low_units (length ws) 0 (places (length ws)) (low_places (length ws) (length ws) (omega arith)))
    ∙ (sends_placed (λ j. get_or ws j 0) q rooms [] (enumerate_from 0 (places (length ws)))
    ∙ ap (sends_from (ByBroadcast q) rooms []) (mapped_units (λ j. get_or ws j 0) 0 (places (length ws)) ∙ ap (enumerate_from 0) (all_at ws)))

pub serves_joined : (p q : ℕ → SubNo → Bool) (rooms : List Room) (ws : List ℕ) → Agree p (placed (λ j. get_or ws j 0) q) (length ws) rooms
    → serves_by_place (ByBroadcast p) rooms (places (length ws)) ≡ serves_by_place (ByBroadcast q) rooms ws
serves_joined p q rooms ws same =
    serves_alike p (placed (λ j. get_or ws j 0) q) (length ws) rooms [] (enumerate_from 0 (places (length ws))) same tt (low_units (length ws) 0 (places (length ws)) (low_places (length ws) (length ws) (omega arith)))
    ∙ (serves_placed (λ j. get_or ws j 0) q rooms [] (enumerate_from 0 (places (length ws)))
    ∙ ap (serves_from (ByBroadcast q) rooms []) (mapped_units (λ j. get_or ws j 0) 0 (places (length ws)) ∙ ap (enumerate_from 0) (all_at ws)))

-- What is planned

map_same : (ns : List ℕ) → map {A = ℕ} {B = ℕ} (λ n. n) ns ≡ ns
map_same [] = refl
map_same (n ∷ ns) = ap (λ ms. n ∷ ms) (map_same ns)

long_alike : (kind : Serving) (rooms : List Room) (g : ℕ → ℕ) (earlier : List ℕ) (from : ℕ) (ns : List ℕ)
    → length (serves_from kind rooms earlier (enumerate_from from (map g ns))) ≡ length (serves_from kind rooms earlier (map {B = ℕ × ℕ} (λ n. (n, g n)) ns))
long_alike kind rooms g earlier from [] = refl
long_alike kind rooms g earlier from (n ∷ ns) = either (is_served kind rooms earlier (g n)) (long_alike kind rooms g (g n ∷ earlier) (from + 1) ns)
  where
    either : (b : Bool) → length (serves_from kind rooms (g n ∷ earlier) (enumerate_from (from + 1) (map g ns))) ≡ length (serves_from kind rooms (g n ∷ earlier) (map {B = ℕ × ℕ} (λ m. (m, g m)) ns))
        → length (if b then from ∷ serves_from kind rooms (g n ∷ earlier) (enumerate_from (from + 1) (map g ns)) else serves_from kind rooms (g n ∷ earlier) (enumerate_from (from + 1) (map g ns)))
        ≡ length (if b then n ∷ serves_from kind rooms (g n ∷ earlier) (map {B = ℕ × ℕ} (λ m. (m, g m)) ns) else serves_from kind rooms (g n ∷ earlier) (map {B = ℕ × ℕ} (λ m. (m, g m)) ns))
    either true e = ap suc e
    either false e = e

-- the picks by place of the waiting batches and the rooms are those of the batches
abbrev pub ArePicks : Topology → History → StageNo → (p : ℕ → SubNo → Bool) → Type 0
ArePicks topology before s p =
    Agree p (placed (λ j. get_or (waiting topology before s) j 0) (picks_by topology before (view_of topology before))) (length (waiting topology before s)) (rooms_by topology before (view_of topology before) s)

-- then the dispatcher's answer is what is planned
pub planned_joined : (topology : Topology) (before : History) (s : StageNo) (p : ℕ → SubNo → Bool) → kind_in (spec_of topology s) ≡ Broadcast → ArePicks topology before s p
    → sends_by_place (ByBroadcast p) (rooms_by topology before (view_of topology before) s) (places (length (waiting topology before s))) ≡ planned topology before s []
planned_joined topology before s p cast same =
    sends_joined p (picks_by topology before (view_of topology before)) (rooms_by topology before (view_of topology before) s) (waiting topology before s) same
    ∙ (ap (sends_by_place (ByBroadcast (picks_by topology before (view_of topology before))) (rooms_by topology before (view_of topology before) s)) (sym (map_same (waiting topology before s)))
    ∙ (sym (ap (λ k. sends_by_place (served_as k (picks_by topology before (view_of topology before))) (rooms_by topology before (view_of topology before) s) (map (λ n. mark_of k n (partition_in before (view_of topology before) (spec_of topology s) n)) (waiting topology before s))) cast)
    ∙ ap (sends_by_place (serving_by topology before (view_of topology before) s) (rooms_by topology before (view_of topology before) s)) (sym (append-nil (marks_of topology before s)))))

-- and as many are served
pub served_joined : (topology : Topology) (before : History) (s : StageNo) (p : ℕ → SubNo → Bool) → kind_in (spec_of topology s) ≡ Broadcast → ArePicks topology before s p
    → length (serves_by_place (ByBroadcast p) (rooms_by topology before (view_of topology before) s) (places (length (waiting topology before s)))) ≡ served_first topology before s
served_joined topology before s p cast same =
    ap length (serves_joined p (picks_by topology before (view_of topology before)) (rooms_by topology before (view_of topology before) s) (waiting topology before s) same)
    ∙ (ap (λ ns. length (serves_by_place (ByBroadcast (picks_by topology before (view_of topology before))) (rooms_by topology before (view_of topology before) s) ns)) (sym (map_same (waiting topology before s)))
    ∙ (long_alike (ByBroadcast (picks_by topology before (view_of topology before))) (rooms_by topology before (view_of topology before) s) (λ n. n) [] 0 (waiting topology before s)
    ∙ sym (ap (λ k. if is_broadcast k then length (serves_from (served_as k (picks_by topology before (view_of topology before))) (rooms_by topology before (view_of topology before) s) []
    (map {B = ℕ × ℕ} (λ n. (n, mark_of k n (partition_in before (view_of topology before) (spec_of topology s) n))) (waiting topology before s))) else 0) cast)))
