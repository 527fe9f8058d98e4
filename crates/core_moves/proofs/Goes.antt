-- Whether a dispatcher sends anything of what waits.
use Rattle.std.proofs.Common.{◌≡◌, ℕ, ◌+◌, ◌≤◌, List, [], ◌∷◌, ◌++◌, length, map, refl, ap, sym, ◌∙◌, subst, Bool, true, false, arith, inl, inr}
use Rattle.std.specs.Prelude.{◌&&◌, ◌||◌, ◌==◌, not, nat_lt, nat_le, filter, count_by, cond, if◌then◌else◌}
use Rattle.std.specs.List.{list_any}
use Rattle.std.proofs.lemmas.Bool.Decides.{nat_tests}
use Rattle.std.proofs.lemmas.Bool.{false_from_ne_true, ltb-true}
use Rattle.std.proofs.lemmas.List.Sums.{sum_by-cons}
use Rattle.pipe_types.specs.declared.numbers.SubNo.{SubNo}
use Rattle.pipe_types.specs.declared.room.Room.{Room}
use Rattle.pipe_types.specs.declared.topology.Dispatch.{Dispatch as DispatchKind}
use Rattle.pipe_types.specs.declared.topology.Dispatch.TheVariants.{Demand, Broadcast, Partition}
use Rattle.pipe_types.specs.Dispatchers.{Serving, ByDemand, ByBroadcast, ByPartition, served_as, fit_all, has_rooms, goes, sends, sends_from, serves, serves_from, on_each, ahead, is_served_before}
use Rattle.pipe_types.specs.Numbers.{sub_before}
use Rattle.pipe_model.specs.Flow.{is_empty}
use Rattle.pipe_laws.proofs.Tests.{clash, both, and_left, and_right}
use Rattle.pipe_laws.proofs.Lists.{Each, each_weaker}
use Rattle.queue_laws.proofs.Served.{Has}
use Rattle.move_laws.proofs.Demands.{none_ahead, has_kept, First, first_room}
use Rattle.core_laws.specs.Columns.{is_broadcast}
use Rattle.core_sends.proofs.Picked.{none_behind}
use Rattle.core_sends.proofs.Front.{no_rooms}
use Rattle.core_moves.specs.Sends.{has_left, takes_part, is_let_in, goes_some}

-- Lists

kept_none : (test : Room → Bool) (rooms : List Room) → Each (λ r. test r ≡ false) rooms → is_empty (filter test rooms) ≡ true
kept_none test [] each = refl
kept_none test (r ∷ rooms) each = ap (λ b. is_empty (cond b (r ∷ filter test rooms) (filter test rooms))) each.0 ∙ kept_none test rooms each.1

any_has : {A : Type 0} (test : A → Bool) (xs : List A) → list_any test xs ≡ false → Each (λ x. test x ≡ false) xs
any_has test [] h = tt
any_has test (x ∷ xs) h = by (test x) refl h (any_has test xs)
  where
    by : (b : Bool) → test x ≡ b → (b || list_any test xs) ≡ false → (list_any test xs ≡ false → Each (λ y. test y ≡ false) xs) → (test x ≡ false) × Each (λ y. test y ≡ false) xs
    by true e k rest = cc
    by false e k rest = (e, rest k)

the_one : (test : Room → Bool) (rooms : List Room) → list_any test rooms ≡ true → (r : Room) × Has r rooms × (test r ≡ true)
the_one test [] h = cc
the_one test (x ∷ rooms) h = by (test x) refl h (the_one test rooms)
  where
    by : (b : Bool) → test x ≡ b → (b || list_any test rooms) ≡ true → (list_any test rooms ≡ true → (r : Room) × Has r rooms × (test r ≡ true)) → (r : Room) × Has r (x ∷ rooms) × (test r ≡ true)
    by true e k rest = (x, inl refl, e)
    by false e k rest = let found = rest k in (found.0, inr found.1, found.2)

has_each : (P : Room → Type 0) (r : Room) (rooms : List Room) → Each P rooms → Has r rooms → P r
has_each P r [] each has = absurd has
has_each P r (x ∷ rooms) each (inl is) = subst P is each.0
has_each P r (x ∷ rooms) each (inr there) = has_each P r rooms each.1 there

first_some : {A : Type 0} (xs ys : List A) → is_empty xs ≡ false → is_empty (xs ++ ys) ≡ false
first_some [] ys h = cc
first_some (x ∷ xs) ys h = refl

last_some : {A : Type 0} (xs ys : List A) → is_empty ys ≡ false → is_empty (xs ++ ys) ≡ false
last_some [] ys h = h
last_some (x ∷ xs) ys h = refl

none_both : {A : Type 0} (xs ys : List A) → is_empty xs ≡ true → is_empty ys ≡ true → is_empty (xs ++ ys) ≡ true
none_both [] ys h k = k
none_both (x ∷ xs) ys h k = cc

each_empty : (n : ℕ) (rooms : List Room) → is_empty (on_each n rooms) ≡ is_empty rooms
each_empty n [] = refl
each_empty n (r ∷ rooms) = refl

-- By demand

-- a room that is served no later than an open one is open
no_less : (v u : Room) → is_served_before v u ≡ false → has_left v ≡ true → 1 ≤ u.left
no_less v u h k = by (nat_lt u.left v.left) refl h
  where
    opened : 1 ≤ v.left
    opened = ltb-true 0 v.left k

    by : (b : Bool) → nat_lt u.left v.left ≡ b → (b || (u.left == v.left && sub_before v.sub u.sub)) ≡ false → 1 ≤ u.left
    by true e k = cc
    by false e k = let least : v.left ≤ u.left = grind (arith, nat_tests) in omega (arith, least, opened)

goes_demand : (rooms : List Room) (part : ℕ) → list_any has_left rooms ≡ true → is_empty (filter (goes ByDemand rooms [] part) rooms) ≡ false
goes_demand [] part h = cc
goes_demand (r ∷ rooms) part h =
    let f : First (r ∷ rooms) = first_room r rooms in
    let some = the_one has_left (r ∷ rooms) h in
    let left : 1 ≤ f.room.left = no_less some.0 f.room (has_each (λ v. is_served_before v f.room ≡ false) some.0 (r ∷ rooms) f.first some.1) some.2 in
    let none : ahead (r ∷ rooms) f.room ≡ 0 = none_ahead f.room (r ∷ rooms) f.first in
    has_kept (goes ByDemand (r ∷ rooms) [] part) f.room (r ∷ rooms) f.has (grind (arith, nat_tests))

stays_demand : (rooms : List Room) (earlier : List ℕ) (part : ℕ) → list_any has_left rooms ≡ false → is_empty (filter (goes ByDemand rooms earlier part) rooms) ≡ true
stays_demand rooms earlier part h =
    kept_none (goes ByDemand rooms earlier part) rooms
    (each_weaker (λ r. has_left r ≡ false) (λ r. goes ByDemand rooms earlier part r ≡ false) (λ r k. by r k) rooms (any_has has_left rooms h))
  where
    by : (r : Room) → has_left r ≡ false → (nat_le (ahead rooms r) (length earlier) && nat_lt (length earlier) (ahead rooms r + r.left)) ≡ false
    by r k = grind (arith, nat_tests)

-- By partition

stays_partition : (rooms : List Room) (earlier : List ℕ) (part : ℕ) → takes_part rooms part ≡ false → is_empty (filter (goes ByPartition rooms earlier part) rooms) ≡ true
stays_partition rooms earlier part h =
    kept_none (goes ByPartition rooms earlier part) rooms
    (each_weaker (λ r. (part == r.part && has_left r) ≡ false) (λ r. goes ByPartition rooms earlier part r ≡ false) (λ r k. by r (part == r.part) k) rooms (any_has (λ r. part == r.part && has_left r) rooms h))
  where
    by : (r : Room) (b : Bool) → (b && has_left r) ≡ false → (b && nat_lt (count_by (λ p. p == r.part) earlier) r.left) ≡ false
    by r true k = grind (arith, nat_tests)
    by r false k = refl

abbrev one_if : Bool → ℕ
one_if b = cond b 1 0

count_none : (part : ℕ) (earlier : List ℕ) → Each (λ p. (p == part) ≡ false) earlier → count_by (λ p. p == part) earlier ≡ 0
count_none part [] each = refl
count_none part (p ∷ earlier) each =
    let one : count_by (λ q. q == part) (p ∷ earlier) ≡ one_if (p == part) + count_by (λ q. q == part) earlier = sum_by-cons (λ q. one_if (q == part)) p earlier in
    let zero_is : one_if (p == part) ≡ 0 = ap one_if each.0 in
    omega (arith, one, zero_is, count_none part earlier each.1)

goes_partition : (rooms : List Room) (earlier : List ℕ) (part : ℕ) → Each (λ p. takes_part rooms p ≡ false) earlier → takes_part rooms part ≡ true → is_empty (filter (goes ByPartition rooms earlier part) rooms) ≡ false
goes_partition rooms earlier part each h =
    has_kept (goes ByPartition rooms earlier part) found.0 rooms found.1 (both (part == found.0.part) (nat_lt (count_by (λ p. p == found.0.part) earlier) found.0.left) (and_left (part == found.0.part) _ found.2) room)
  where
    found : (r : Room) × Has r rooms × ((part == r.part && has_left r) ≡ true)
    found = the_one (λ r. part == r.part && has_left r) rooms h

    left : has_left found.0 ≡ true
    left = and_right (part == found.0.part) _ found.2

    other : (p : ℕ) → takes_part rooms p ≡ false → (p == found.0.part) ≡ false
    other p k = false_from_ne_true (p == found.0.part) (λ same.
        clash (p == found.0.part && has_left found.0) (both (p == found.0.part) (has_left found.0) same left)
        (has_each (λ r. (p == r.part && has_left r) ≡ false) found.0 rooms (any_has (λ r. p == r.part && has_left r) rooms k) found.1))

    none : count_by (λ p. p == found.0.part) earlier ≡ 0
    none = count_none found.0.part earlier (each_weaker (λ p. takes_part rooms p ≡ false) (λ p. (p == found.0.part) ≡ false) other earlier each)

    room : nat_lt (count_by (λ p. p == found.0.part) earlier) found.0.left ≡ true
    room = ap (λ n. nat_lt n found.0.left) none ∙ left

-- What is sent

stays_all : (kind : Serving) (rooms : List Room) (earlier : List ℕ) (units : List (ℕ × ℕ)) → Each (λ (u : ℕ × ℕ). (e : List ℕ) → is_empty (filter (goes kind rooms e u.1) rooms) ≡ true) units → is_empty (sends_from kind rooms earlier units) ≡ true
stays_all kind rooms earlier [] each = refl
stays_all kind rooms earlier (u ∷ units) each =
    none_both (on_each u.0 (filter (goes kind rooms earlier u.1) rooms)) (sends_from kind rooms (u.1 ∷ earlier) units)
    (each_empty u.0 (filter (goes kind rooms earlier u.1) rooms) ∙ each.0 earlier) (stays_all kind rooms (u.1 ∷ earlier) units each.1)

goes_head : (kind : Serving) (rooms : List Room) (u : ℕ × ℕ) (units : List (ℕ × ℕ)) → is_empty (filter (goes kind rooms [] u.1) rooms) ≡ false → is_empty (sends kind rooms (u ∷ units)) ≡ false
goes_head kind rooms u units h = first_some (on_each u.0 (filter (goes kind rooms [] u.1) rooms)) _ (each_empty u.0 (filter (goes kind rooms [] u.1) rooms) ∙ h)

every : {A : Type 0} (P : A → Type 0) → ((x : A) → P x) → (xs : List A) → Each P xs
every P all [] = tt
every P all (x ∷ xs) = (all x, every P all xs)

goes_one : (rooms : List Room) (earlier : List ℕ) (units : List (ℕ × ℕ)) → Each (λ p. takes_part rooms p ≡ false) earlier → list_any (takes_part rooms) (map (λ (u : ℕ × ℕ). u.1) units) ≡ true → is_empty (sends_from ByPartition rooms earlier units) ≡ false
goes_one rooms earlier [] each h = cc
goes_one rooms earlier (u ∷ units) each h = by (takes_part rooms u.1) refl h (λ e k. goes_one rooms (u.1 ∷ earlier) units (e, each) k)
  where
    by : (b : Bool) → takes_part rooms u.1 ≡ b → (b || list_any (takes_part rooms) (map (λ (u : ℕ × ℕ). u.1) units)) ≡ true
        → (takes_part rooms u.1 ≡ false → list_any (takes_part rooms) (map (λ (u : ℕ × ℕ). u.1) units) ≡ true → is_empty (sends_from ByPartition rooms (u.1 ∷ earlier) units) ≡ false)
        → is_empty (sends_from ByPartition rooms earlier (u ∷ units)) ≡ false
    by true e k rest = first_some (on_each u.0 (filter (goes ByPartition rooms earlier u.1) rooms)) _ (each_empty u.0 (filter (goes ByPartition rooms earlier u.1) rooms) ∙ goes_partition rooms earlier u.1 each e)
    by false e k rest = last_some (on_each u.0 (filter (goes ByPartition rooms earlier u.1) rooms)) _ (rest e k)

goes_none : (rooms : List Room) (units : List (ℕ × ℕ)) → list_any (takes_part rooms) (map (λ (u : ℕ × ℕ). u.1) units) ≡ false → Each (λ (u : ℕ × ℕ). (e : List ℕ) → is_empty (filter (goes ByPartition rooms e u.1) rooms) ≡ true) units
goes_none rooms [] h = tt
goes_none rooms (u ∷ units) h = by (takes_part rooms u.1) refl h (goes_none rooms units)
  where
    by : (b : Bool) → takes_part rooms u.1 ≡ b → (b || list_any (takes_part rooms) (map (λ (u : ℕ × ℕ). u.1) units)) ≡ false
        → (list_any (takes_part rooms) (map (λ (u : ℕ × ℕ). u.1) units) ≡ false → Each (λ (u : ℕ × ℕ). (e : List ℕ) → is_empty (filter (goes ByPartition rooms e u.1) rooms) ≡ true) units)
        → ((e : List ℕ) → is_empty (filter (goes ByPartition rooms e u.1) rooms) ≡ true) × Each (λ (u : ℕ × ℕ). (e : List ℕ) → is_empty (filter (goes ByPartition rooms e u.1) rooms) ≡ true) units
    by true e k rest = cc
    by false e k rest = (λ earlier. stays_partition rooms earlier u.1 e, rest k)

-- by demand and by part something is sent just where this test says so
pub sends_is : (kind : DispatchKind) (picks : ℕ → SubNo → Bool) (rooms : List Room) (units : List (ℕ × ℕ)) → is_broadcast kind ≡ false
    → not (is_empty (sends (served_as kind picks) rooms units)) ≡ goes_some (served_as kind picks) rooms (map (λ (u : ℕ × ℕ). u.1) units)
sends_is Broadcast picks rooms units plain = cc
sends_is Demand picks rooms [] plain = refl
sends_is Demand picks rooms (u ∷ units) plain = by (list_any has_left rooms) refl
  where
    by : (b : Bool) → list_any has_left rooms ≡ b → not (is_empty (sends ByDemand rooms (u ∷ units))) ≡ (true && list_any has_left rooms)
    by true e = ap not (goes_head ByDemand rooms u units (goes_demand rooms u.1 e)) ∙ sym e
    by false e = ap not (stays_all ByDemand rooms [] (u ∷ units) (every (λ (u : ℕ × ℕ). (e : List ℕ) → is_empty (filter (goes ByDemand rooms e u.1) rooms) ≡ true) (λ v earlier. stays_demand rooms earlier v.1 e) (u ∷ units))) ∙ sym e
sends_is Partition picks rooms units plain = by (list_any (takes_part rooms) (map (λ (u : ℕ × ℕ). u.1) units)) refl
  where
    by : (b : Bool) → list_any (takes_part rooms) (map (λ (u : ℕ × ℕ). u.1) units) ≡ b → not (is_empty (sends ByPartition rooms units)) ≡ list_any (takes_part rooms) (map (λ (u : ℕ × ℕ). u.1) units)
    by true e = ap not (goes_one rooms [] units tt e) ∙ sym e
    by false e = ap not (stays_all ByPartition rooms [] units (goes_none rooms units e)) ∙ sym e

-- To everyone that picks the unit

-- one unit fits where everyone that picks it asked for one more
fits_one : (picks : ℕ → SubNo → Bool) (rooms : List Room) (unit : ℕ) → fit_all picks rooms (unit ∷ []) ≡ is_let_in picks rooms unit
fits_one picks [] unit = refl
fits_one picks (r ∷ rooms) unit =
    let one : count_by (λ n. picks n r.sub) (unit ∷ []) ≡ cond (picks unit r.sub) 1 0 + 0 = sum_by-cons (λ n. cond (picks n r.sub) 1 0) unit [] in
    let here : nat_le (count_by (λ n. picks n r.sub) (unit ∷ [])) r.left ≡ (not (picks unit r.sub) || has_left r) = ap (λ k. nat_le k r.left) one ∙ by (picks unit r.sub) in
    λ i. here i && fits_one picks rooms unit i
  where
    by : (b : Bool) → nat_le (cond b 1 0 + 0) r.left ≡ (not b || nat_lt 0 r.left)
    by true = grind (arith, nat_tests)
    by false = grind (arith, nat_tests)

rooms_are : (rooms : List Room) → has_rooms rooms ≡ not (is_empty rooms)
rooms_are [] = refl
rooms_are (r ∷ rooms) = refl

-- something is served just where the first unit is
pub serves_is : (picks : ℕ → SubNo → Bool) (rooms : List Room) (units : List (ℕ × ℕ))
    → not (is_empty (serves (ByBroadcast picks) rooms units)) ≡ goes_some (ByBroadcast picks) rooms (map (λ (u : ℕ × ℕ). u.1) units)
serves_is picks rooms [] = refl
serves_is picks rooms (u ∷ units) =
    by (has_rooms rooms) (fit_all picks rooms (u.1 ∷ [])) refl refl
    ∙ ((λ i. rooms_are rooms i && fit_all picks rooms (u.1 ∷ [])) ∙ (λ i. not (is_empty rooms) && fits_one picks rooms u.1 i))
  where
    by : (a b : Bool) → has_rooms rooms ≡ a → fit_all picks rooms (u.1 ∷ []) ≡ b
        → not (is_empty (if has_rooms rooms && fit_all picks rooms (u.1 ∷ []) then u.0 ∷ serves_from (ByBroadcast picks) rooms (u.1 ∷ []) units else serves_from (ByBroadcast picks) rooms (u.1 ∷ []) units)) ≡ (has_rooms rooms && fit_all picks rooms (u.1 ∷ []))
    by true true e f =
        (λ i. not (is_empty (if e i && f i then u.0 ∷ serves_from (ByBroadcast picks) rooms (u.1 ∷ []) units else serves_from (ByBroadcast picks) rooms (u.1 ∷ []) units)))
        ∙ sym (λ i. e i && f i)
    by true false e f =
        (λ i. not (is_empty (if e i && f i then u.0 ∷ serves_from (ByBroadcast picks) rooms (u.1 ∷ []) units else serves_from (ByBroadcast picks) rooms (u.1 ∷ []) units)))
        ∙ (ap (λ ns. not (is_empty ns)) (none_behind picks rooms (u.1 ∷ []) units f) ∙ sym (λ i. e i && f i))
    by false b e f =
        (λ i. not (is_empty (if e i && fit_all picks rooms (u.1 ∷ []) then u.0 ∷ serves_from (ByBroadcast picks) rooms (u.1 ∷ []) units else serves_from (ByBroadcast picks) rooms (u.1 ∷ []) units)))
        ∙ (ap (λ ns. not (is_empty ns)) (no_rooms picks rooms (u.1 ∷ []) units e) ∙ sym (λ i. e i && fit_all picks rooms (u.1 ∷ [])))

none_pass : (test : Room → Bool) (rooms : List Room) → filter (λ r. false && test r) rooms ≡ []
none_pass test [] = refl
none_pass test (r ∷ rooms) = none_pass test rooms

-- where nothing is served nothing is sent
pub none_sent : (picks : ℕ → SubNo → Bool) (rooms : List Room) (earlier : List ℕ) (units : List (ℕ × ℕ)) → serves_from (ByBroadcast picks) rooms earlier units ≡ [] → sends_from (ByBroadcast picks) rooms earlier units ≡ []
none_sent picks rooms earlier [] h = refl
none_sent picks [] earlier (u ∷ units) h = none_sent picks [] (u.1 ∷ earlier) units h
none_sent picks (r ∷ rooms) earlier (u ∷ units) h = by (fit_all picks (r ∷ rooms) (u.1 ∷ earlier)) refl h (λ k. none_sent picks (r ∷ rooms) (u.1 ∷ earlier) units k)
  where
    by : (b : Bool) → fit_all picks (r ∷ rooms) (u.1 ∷ earlier) ≡ b
        → (if b then u.0 ∷ serves_from (ByBroadcast picks) (r ∷ rooms) (u.1 ∷ earlier) units else serves_from (ByBroadcast picks) (r ∷ rooms) (u.1 ∷ earlier) units) ≡ []
        → (serves_from (ByBroadcast picks) (r ∷ rooms) (u.1 ∷ earlier) units ≡ [] → sends_from (ByBroadcast picks) (r ∷ rooms) (u.1 ∷ earlier) units ≡ [])
        → on_each u.0 (filter (λ (v : Room). fit_all picks (r ∷ rooms) (u.1 ∷ earlier) && picks u.1 v.sub) (r ∷ rooms)) ++ sends_from (ByBroadcast picks) (r ∷ rooms) (u.1 ∷ earlier) units ≡ []
    by true e k rest = cc
    by false e k rest =
        (λ i. on_each u.0 (filter (λ (v : Room). e i && picks u.1 v.sub) (r ∷ rooms)) ++ rest k i)
        ∙ ap (λ (rs : List Room). on_each u.0 rs ++ []) (none_pass (λ v. picks u.1 v.sub) (r ∷ rooms))
