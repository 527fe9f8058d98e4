-- What the broadcast rule sends and serves of one more unit, from picks by place.
use Rattle.std.proofs.Common.{length, ◌≡◌, ℕ, zero, suc, ◌+◌, ◌*◌, ◌-◌, ◌<◌, ◌≤◌, List, [], ◌∷◌, ◌++◌, map, take, set, get_or, inl, inr, refl, ap, sym, ◌∙◌, arith, append_assoc, subst}
use Rattle.std.specs.Prelude.{Bool, true, false, filter, nat_le, cond, count_by, ◌&&◌, if◌then◌else◌, slice_get, Some, ◌⊎◌}
use Rattle.std.specs.List.{enumerate_from}
use mir.Val.{bool_byte}
use Rattle.std.proofs.lemmas.Option.{slice_get-get_or}
use Rattle.std.proofs.lemmas.Bool.{false_from_ne_true, cases_lt}
use Rattle.std.proofs.lemmas.Bool.Decides.{nat_tests}
use Rattle.std.proofs.lemmas.List.{append-nil, length-append, take_more}
use Rattle.std.proofs.lemmas.List.Sums.{sum_by-cons}
use Rattle.pipe_types.specs.declared.numbers.SubNo.{SubNo}
use Rattle.pipe_types.specs.declared.room.Room.{Room}
use Rattle.pipe_types.specs.declared.room.Sent.{Sent}
use Rattle.pipe_types.specs.Numbers.{same_sub, sub_before}
use Rattle.pipe_types.specs.Rooms.{AreAscending}
use Rattle.pipe_types.specs.Dispatchers.{Serving, ByBroadcast, fit_all, goes, is_served, has_rooms, on_each, sends_by_place, serves_from, serves_by_place}
use Rattle.pipe_types.proofs.Sends.{turned, sends_push}
use Rattle.dispatch_broadcast.specs.Picks.{place_in, picks_in, places}

-- Places

pub length-places : (n : ℕ) → length (places n) ≡ n
length-places zero = refl
length-places (suc n) = omega (arith, length-append (places n) (n ∷ []), length-places n)

pub places_more : (n : ℕ) → places (n + 1) ≡ places n ++ n ∷ []
places_more n = let next : n + 1 ≡ suc n = omega arith in ap places next

turned_push : (xs earlier : List ℕ) (x : ℕ) → turned (xs ++ x ∷ []) earlier ≡ x ∷ turned xs earlier
turned_push [] earlier x = refl
turned_push (y ∷ xs) earlier x = turned_push xs (y ∷ earlier) x

-- the units before the one at this place, the nearest first
abbrev pub done : ℕ → List ℕ
done n = turned (places n) []

pub done_more : (n : ℕ) → done (n + 1) ≡ n ∷ done n
done_more n = ap (λ ns. turned ns []) (places_more n) ∙ turned_push (places n) [] n

-- One more unit

serves_from_push : (kind : Serving) (rooms : List Room) (earlier : List ℕ) (n : ℕ) (marks : List ℕ) (p : ℕ)
    → serves_from kind rooms earlier (enumerate_from n (marks ++ p ∷ [])) ≡ serves_from kind rooms earlier (enumerate_from n marks) ++ (if is_served kind rooms (turned marks earlier) p then (n + length marks) ∷ [] else [])
serves_from_push kind rooms earlier n [] p = let e : n + 0 ≡ n = omega arith in ap (λ k. if is_served kind rooms earlier p then k ∷ [] else []) (sym e)
serves_from_push kind rooms earlier n (q ∷ marks) p =
    let place : n + 1 + length marks ≡ n + suc (length marks) = omega arith in
    either (is_served kind rooms earlier q)
    (serves_from_push kind rooms (q ∷ earlier) (n + 1) marks p ∙ ap (λ k. serves_from kind rooms (q ∷ earlier) (enumerate_from (n + 1) marks) ++ (if is_served kind rooms (turned marks (q ∷ earlier)) p then k ∷ [] else [])) place)
  where
    either : (b : Bool) → serves_from kind rooms (q ∷ earlier) (enumerate_from (n + 1) (marks ++ p ∷ [])) ≡ serves_from kind rooms (q ∷ earlier) (enumerate_from (n + 1) marks) ++ (if is_served kind rooms (turned marks (q ∷ earlier)) p then (n + suc (length marks)) ∷ [] else [])
        → (if b then n ∷ serves_from kind rooms (q ∷ earlier) (enumerate_from (n + 1) (marks ++ p ∷ [])) else serves_from kind rooms (q ∷ earlier) (enumerate_from (n + 1) (marks ++ p ∷ [])))
        ≡ (if b then n ∷ serves_from kind rooms (q ∷ earlier) (enumerate_from (n + 1) marks) else serves_from kind rooms (q ∷ earlier) (enumerate_from (n + 1) marks)) ++ (if is_served kind rooms (turned marks (q ∷ earlier)) p then (n + suc (length marks)) ∷ [] else [])
    either true e = ap (λ ns. n ∷ ns) e
    either false e = e

serves_push : (kind : Serving) (rooms : List Room) (n : ℕ) → serves_by_place kind rooms (places (n + 1)) ≡ serves_by_place kind rooms (places n) ++ (if is_served kind rooms (done n) n then n ∷ [] else [])
serves_push kind rooms n =
    ap (serves_by_place kind rooms) (places_more n)
    ∙ (serves_from_push kind rooms [] 0 (places n) n
    ∙ ap (λ k. serves_by_place kind rooms (places n) ++ (if is_served kind rooms (done n) n then k ∷ [] else [])) (omega (arith, length-places n)))

sends_more : (kind : Serving) (rooms : List Room) (n : ℕ) → sends_by_place kind rooms (places (n + 1)) ≡ sends_by_place kind rooms (places n) ++ on_each n (filter (goes kind rooms (done n) n) rooms)
sends_more kind rooms n =
    ap (sends_by_place kind rooms) (places_more n)
    ∙ (sends_push kind rooms (places n) n ∙ ap (λ k. sends_by_place kind rooms (places n) ++ on_each k (filter (goes kind rooms (done n) n) rooms)) (length-places n))

-- a unit that fits goes to everyone who picks it
pub sends_fit : (picks : ℕ → SubNo → Bool) (rooms : List Room) (n : ℕ) → fit_all picks rooms (n ∷ done n) ≡ true
    → sends_by_place (ByBroadcast picks) rooms (places (n + 1)) ≡ sends_by_place (ByBroadcast picks) rooms (places n) ++ on_each n (filter (λ r. picks n r.sub) rooms)
sends_fit picks rooms n fit = sends_more (ByBroadcast picks) rooms n ∙ ap (λ b. sends_by_place (ByBroadcast picks) rooms (places n) ++ on_each n (filter (λ r. b && picks n r.sub) rooms)) fit

pub serves_fit : (picks : ℕ → SubNo → Bool) (rooms : List Room) (n : ℕ) → has_rooms rooms ≡ true → fit_all picks rooms (n ∷ done n) ≡ true
    → length (serves_by_place (ByBroadcast picks) rooms (places (n + 1))) ≡ length (serves_by_place (ByBroadcast picks) rooms (places n)) + 1
serves_fit picks rooms n some fit =
    ap length (serves_push (ByBroadcast picks) rooms n ∙ ap (λ b. serves_by_place (ByBroadcast picks) rooms (places n) ++ (if b then n ∷ [] else [])) (both (has_rooms rooms) some fit))
    ∙ length-append (serves_by_place (ByBroadcast picks) rooms (places n)) (n ∷ [])
  where
    both : (a : Bool) {b : Bool} → a ≡ true → b ≡ true → (a && b) ≡ true
    both true e f = f
    both false e f = cc

-- No unit behind one that is not served

-- once units do not fit, more of them do not fit either
pub fits_less : (picks : ℕ → SubNo → Bool) (rooms : List Room) (x : ℕ) (xs : List ℕ) → fit_all picks rooms (x ∷ xs) ≡ true → fit_all picks rooms xs ≡ true
fits_less picks [] x xs h = refl
fits_less picks (v ∷ rooms) x xs h =
    both (nat_le (count_by (λ n. picks n v.sub) (x ∷ xs)) v.left) (fit_all picks rooms (x ∷ xs)) (nat_le (count_by (λ n. picks n v.sub) xs) v.left) (fit_all picks rooms xs) h
    (less (picks x v.sub) (count_by (λ n. picks n v.sub) xs) (count_by (λ n. picks n v.sub) (x ∷ xs)) v.left (sum_by-cons (λ n. cond (picks n v.sub) 1 0) x xs)) (fits_less picks rooms x xs)
  where
    both : (a b c d : Bool) → (a && b) ≡ true → (a ≡ true → c ≡ true) → (b ≡ true → d ≡ true) → (c && d) ≡ true
    both true true c d h f g = λ i. f refl i && g refl i
    both true false c d h f g = cc
    both false b c d h f g = cc

    less : (b : Bool) (k n left : ℕ) → n ≡ cond b 1 0 + k → nat_le n left ≡ true → nat_le k left ≡ true
    less true k n left e h = grind (arith, nat_tests)
    less false k n left e h = grind (arith, nat_tests)

pub unfit_more : (picks : ℕ → SubNo → Bool) (rooms : List Room) (n : ℕ) → fit_all picks rooms (n ∷ done n) ≡ false → fit_all picks rooms ((n + 1) ∷ done (n + 1)) ≡ false
unfit_more picks rooms n h =
    false_from_ne_true (fit_all picks rooms ((n + 1) ∷ done (n + 1)))
    (λ k. let x : true ≡ false = sym (ap (fit_all picks rooms) (sym (done_more n)) ∙ fits_less picks rooms (n + 1) (done (n + 1)) k) ∙ h in cc)

none_pass : (test : Room → Bool) (rooms : List Room) → filter (λ r. false && test r) rooms ≡ []
none_pass test [] = refl
none_pass test (r ∷ rooms) = none_pass test rooms

pub stop_sends : (picks : ℕ → SubNo → Bool) (rooms : List Room) (n k : ℕ) → fit_all picks rooms (n ∷ done n) ≡ false → sends_by_place (ByBroadcast picks) rooms (places (n + k)) ≡ sends_by_place (ByBroadcast picks) rooms (places n)
stop_sends picks rooms n zero h = let same : n + zero ≡ n = omega arith in ap (λ m. sends_by_place (ByBroadcast picks) rooms (places m)) same
stop_sends picks rooms n (suc k) h =
    let place : n + suc k ≡ (n + 1) + k = omega arith in
    ap (λ m. sends_by_place (ByBroadcast picks) rooms (places m)) place
    ∙ (stop_sends picks rooms (n + 1) k (unfit_more picks rooms n h)
    ∙ (sends_more (ByBroadcast picks) rooms n
    ∙ (ap (λ b. sends_by_place (ByBroadcast picks) rooms (places n) ++ on_each n (filter (λ r. b && picks n r.sub) rooms)) h
    ∙ (ap (λ rs. sends_by_place (ByBroadcast picks) rooms (places n) ++ on_each n rs) (none_pass (λ r. picks n r.sub) rooms)
    ∙ append-nil (sends_by_place (ByBroadcast picks) rooms (places n))))))

pub stop_serves : (picks : ℕ → SubNo → Bool) (rooms : List Room) (n k : ℕ) → fit_all picks rooms (n ∷ done n) ≡ false → serves_by_place (ByBroadcast picks) rooms (places (n + k)) ≡ serves_by_place (ByBroadcast picks) rooms (places n)
stop_serves picks rooms n zero h = let same : n + zero ≡ n = omega arith in ap (λ m. serves_by_place (ByBroadcast picks) rooms (places m)) same
stop_serves picks rooms n (suc k) h =
    let place : n + suc k ≡ (n + 1) + k = omega arith in
    ap (λ m. serves_by_place (ByBroadcast picks) rooms (places m)) place
    ∙ (stop_serves picks rooms (n + 1) k (unfit_more picks rooms n h)
    ∙ (serves_push (ByBroadcast picks) rooms n
    ∙ (ap (λ b. serves_by_place (ByBroadcast picks) rooms (places n) ++ (if b then n ∷ [] else [])) (never (has_rooms rooms) h)
    ∙ append-nil (serves_by_place (ByBroadcast picks) rooms (places n)))))
  where
    never : (a : Bool) {b : Bool} → b ≡ false → (a && b) ≡ false
    never true e = e
    never false e = refl

-- with no room nothing is sent or served
pub no_sends : (picks : ℕ → SubNo → Bool) (n : ℕ) → sends_by_place (ByBroadcast picks) [] (places n) ≡ []
no_sends picks zero = refl
no_sends picks (suc n) =
    let next : suc n ≡ n + 1 = omega arith in
    ap (λ m. sends_by_place (ByBroadcast picks) [] (places m)) next ∙ (sends_more (ByBroadcast picks) [] n ∙ (append-nil (sends_by_place (ByBroadcast picks) [] (places n)) ∙ no_sends picks n))

pub no_serves : (picks : ℕ → SubNo → Bool) (n : ℕ) → serves_by_place (ByBroadcast picks) [] (places n) ≡ []
no_serves picks zero = refl
no_serves picks (suc n) =
    let next : suc n ≡ n + 1 = omega arith in
    ap (λ m. serves_by_place (ByBroadcast picks) [] (places m)) next ∙ (serves_push (ByBroadcast picks) [] n ∙ (append-nil (serves_by_place (ByBroadcast picks) [] (places n)) ∙ no_serves picks n))

-- The opens demand

-- where each room that picks the unit has an opens demand left, the unit fits
pub fit_from : (picks : ℕ → SubNo → Bool) (rooms : List Room) (left : ℕ → ℕ) (earlier : List ℕ) (n : ℕ)
    → ((i : ℕ) (r : Room) → slice_get rooms i ≡ Some r → left i + count_by (λ m. picks m r.sub) earlier ≡ r.left)
    → ((i : ℕ) (r : Room) → slice_get rooms i ≡ Some r → picks n r.sub ≡ true → 1 ≤ left i) → fit_all picks rooms (n ∷ earlier) ≡ true
fit_from picks [] left earlier n opens some = refl
fit_from picks (v ∷ rooms) left earlier n opens some =
    both (one (picks n v.sub) refl) (fit_from picks rooms (λ i. left (suc i)) earlier n (λ i r e. opens (suc i) r e) (λ i r e. some (suc i) r e))
  where
    both : {a b : Bool} → a ≡ true → b ≡ true → (a && b) ≡ true
    both e f = λ i. e i && f i

    one : (b : Bool) → picks n v.sub ≡ b → nat_le (count_by (λ m. picks m v.sub) (n ∷ earlier)) v.left ≡ true
    one true e =
        let all = sum_by-cons (λ m. cond (picks m v.sub) 1 0) n earlier in
        let here : ◌≡◌ {A = ℕ} (cond (picks n v.sub) 1 0) 1 = ap (λ b. cond b 1 0) e in
        let most : count_by (λ m. picks m v.sub) (n ∷ earlier) ≤ v.left = omega (arith, all, here, opens 0 v refl, some 0 v refl e) in
        grind (arith, nat_tests)
    one false e =
        let all = sum_by-cons (λ m. cond (picks m v.sub) 1 0) n earlier in
        let here : ◌≡◌ {A = ℕ} (cond (picks n v.sub) 1 0) 0 = ap (λ b. cond b 1 0) e in
        let most : count_by (λ m. picks m v.sub) (n ∷ earlier) ≤ v.left = omega (arith, all, here, opens 0 v refl) in
        grind (arith, nat_tests)

-- and where one that picks it has none, it does not
pub unfit_from : (picks : ℕ → SubNo → Bool) (rooms : List Room) (left : ℕ → ℕ) (earlier : List ℕ) (n i : ℕ) (r : Room)
    → slice_get rooms i ≡ Some r → left i + count_by (λ m. picks m r.sub) earlier ≡ r.left → picks n r.sub ≡ true → left i ≡ 0 → fit_all picks rooms (n ∷ earlier) ≡ false
unfit_from picks [] left earlier n i r at opens picked none = cc
unfit_from picks (v ∷ rooms) left earlier n zero r at opens picked none =
    let is : v ≡ r = cc in
    let all = sum_by-cons (λ m. cond (picks m r.sub) 1 0) n earlier in
    let here : ◌≡◌ {A = ℕ} (cond (picks n r.sub) 1 0) 1 = ap (λ b. cond b 1 0) picked in
    let over : r.left < count_by (λ m. picks m r.sub) (n ∷ earlier) = omega (arith, all, here, opens, none) in
    let no : nat_le (count_by (λ m. picks m r.sub) (n ∷ earlier)) r.left ≡ false = grind (arith, nat_tests) in
    ap (λ (u : Room). nat_le (count_by (λ m. picks m u.sub) (n ∷ earlier)) u.left && fit_all picks rooms (n ∷ earlier)) is ∙ ap (λ b. b && fit_all picks rooms (n ∷ earlier)) no
unfit_from picks (v ∷ rooms) left earlier n (suc i) r at opens picked none =
    ap (λ b. nat_le (count_by (λ m. picks m v.sub) (n ∷ earlier)) v.left && b) (unfit_from picks rooms (λ j. left (suc j)) earlier n i r at opens picked none) ∙ never (nat_le (count_by (λ m. picks m v.sub) (n ∷ earlier)) v.left)
  where
    never : (a : Bool) → (a && false) ≡ false
    never true = refl
    never false = refl

-- Rooms by place

before_is_apart : (u v : SubNo) → sub_before u v ≡ true → same_sub u v ≡ false
before_is_apart u v h = grind (arith, nat_tests)

itself : (u : SubNo) → same_sub u u ≡ true
itself u = grind (arith, nat_tests)

pub place_at : (rooms : List Room) (i : ℕ) (r : Room) → AreAscending rooms → slice_get rooms i ≡ Some r → place_in rooms r.sub ≡ i
place_at [] i r up at = cc
place_at (v ∷ rooms) zero r up at =
    let is : v ≡ r = cc in
    ap (λ (u : Room). if same_sub u.sub r.sub then 0 else place_in rooms r.sub + 1) is ∙ ap (λ b. if b then 0 else place_in rooms r.sub + 1) (itself r.sub)
place_at (v ∷ rooms) (suc i) r up at =
    let below = there rooms i r at in
    let other : same_sub v.sub r.sub ≡ false = before_is_apart v.sub r.sub (subst (λ (u : Room). sub_before v.sub u.sub ≡ true) (found rooms i r at) (up 0 (suc i) r (omega arith) (omega (arith, below)))) in
    let rest : place_in rooms r.sub ≡ i = place_at rooms i r (λ j k d lt within. up (suc j) (suc k) d (omega (arith, lt)) (omega (arith, within))) at in
    ap (λ b. if b then 0 else place_in rooms r.sub + 1) other ∙ omega (arith, rest)
  where
    there : (rs : List Room) (j : ℕ) (u : Room) → slice_get rs j ≡ Some u → j < length rs
    there [] j u e = cc
    there (x ∷ rs) zero u e = omega arith
    there (x ∷ rs) (suc j) u e = let low = there rs j u e in omega (arith, low)

    found : (rs : List Room) (j : ℕ) (u : Room) → slice_get rs j ≡ Some u → get_or rs j u ≡ u
    found [] j u e = cc
    found (x ∷ rs) zero u e = cc
    found (x ∷ rs) (suc j) u e = found rs j u e

-- the picks of a unit by room
pub pick_at : (rooms : List Room) (picks : List Bool) (n i : ℕ) (r : Room) → AreAscending rooms → slice_get rooms i ≡ Some r → picks_in rooms picks n r.sub ≡ get_or picks (n * length rooms + i) false
pick_at rooms picks n i r up at = ap (λ k. get_or picks (n * length rooms + k) false) (place_at rooms i r up at)

-- before the first unit
pub no_fits : (picks : ℕ → SubNo → Bool) (rooms : List Room) → fit_all picks rooms [] ≡ true
no_fits picks [] = refl
no_fits picks (v ∷ rooms) = λ i. none v.left i && no_fits picks rooms i
  where
    none : (left : ℕ) → nat_le 0 left ≡ true
    none left = grind (arith, nat_tests)

pub first_left : (rooms : List Room) (left : List ℕ) (i : ℕ) (r : Room) → left ≡ map (λ (v : Room). v.left) rooms → slice_get rooms i ≡ Some r → get_or left i 0 + 0 ≡ r.left
first_left rooms left i r is at = let here = ap (λ xs. get_or xs i 0) is ∙ by rooms i at in omega (arith, here)
  where
    by : (rs : List Room) (j : ℕ) → slice_get rs j ≡ Some r → get_or (map (λ (v : Room). v.left) rs) j 0 ≡ r.left
    by [] j e = cc
    by (v ∷ rs) zero e = let same : v ≡ r = cc in ap (λ (u : Room). u.left) same
    by (v ∷ rs) (suc j) e = by rs j e

-- One room more

filter_one : (test : Room → Bool) (xs : List Room) (r : Room) → filter test (xs ++ r ∷ []) ≡ filter test xs ++ (if test r then r ∷ [] else [])
filter_one test [] r = either (test r)
  where
    either : (b : Bool) → cond b (r ∷ []) [] ≡ (if b then r ∷ [] else [])
    either true = refl
    either false = refl
filter_one test (x ∷ xs) r = either (test x) (filter_one test xs r)
  where
    either : (b : Bool) → filter test (xs ++ r ∷ []) ≡ filter test xs ++ (if test r then r ∷ [] else [])
        → cond b (x ∷ filter test (xs ++ r ∷ [])) (filter test (xs ++ r ∷ [])) ≡ cond b (x ∷ filter test xs) (filter test xs) ++ (if test r then r ∷ [] else [])
    either true e = ap (λ rs. x ∷ rs) e
    either false e = e

each_both : (unit : ℕ) (xs ys : List Room) → on_each unit (xs ++ ys) ≡ on_each unit xs ++ on_each unit ys
each_both unit [] ys = refl
each_both unit (x ∷ xs) ys = ap (λ ds. record { unit = unit; sub = x.sub } ∷ ds) (each_both unit xs ys)

pub sent_turn : (rooms : List Room) (picks : List Bool) (unit i : ℕ) (d : Room) (old now new : List Sent) → AreAscending rooms → i < length rooms
    → now ≡ old ++ on_each unit (filter (λ r. picks_in rooms picks unit r.sub) (take i rooms))
    → new ≡ now ++ (if get_or picks (unit * length rooms + i) false then record { unit = unit; sub = (get_or rooms i d).sub } ∷ [] else [])
    → new ≡ old ++ on_each unit (filter (λ r. picks_in rooms picks unit r.sub) (take (i + 1) rooms))
sent_turn rooms picks unit i d old now new up below was turn =
    let r : Room = get_or rooms i d in
    let test : Room → Bool = λ r. picks_in rooms picks unit r.sub in
    let here : picks_in rooms picks unit r.sub ≡ get_or picks (unit * length rooms + i) false = pick_at rooms picks unit i r up (slice_get-get_or rooms i d below) in
    let more : on_each unit (filter test (take (i + 1) rooms)) ≡ on_each unit (filter test (take i rooms)) ++ (if get_or picks (unit * length rooms + i) false then record { unit = unit; sub = r.sub } ∷ [] else []) =
    ap (λ rs. on_each unit (filter test rs)) (take_more rooms i d below)
    ∙ (ap (on_each unit) (filter_one test (take i rooms) r)
    ∙ (each_both unit (filter test (take i rooms)) (if test r then r ∷ [] else [])
    ∙ ap (λ ds. on_each unit (filter test (take i rooms)) ++ ds) (each_one (test r) (get_or picks (unit * length rooms + i) false) r here))) in
    turn
    ∙ (ap (λ ds. ds ++ (if get_or picks (unit * length rooms + i) false then record { unit = unit; sub = r.sub } ∷ [] else [])) was
    ∙ (append_assoc old (on_each unit (filter test (take i rooms))) (if get_or picks (unit * length rooms + i) false then record { unit = unit; sub = r.sub } ∷ [] else [])
    ∙ ap (λ ds. old ++ ds) (sym more)))
  where
    each_one : (a b : Bool) (r : Room) → a ≡ b → on_each unit (if a then r ∷ [] else []) ≡ (if b then record { unit = unit; sub = r.sub } ∷ [] else [])
    each_one a true r e = ap (λ c. on_each unit (if c then r ∷ [] else [])) e
    each_one a false r e = ap (λ c. on_each unit (if c then r ∷ [] else [])) e

get_same : (xs : List ℕ) (i v : ℕ) → i < length xs → get_or (set xs i v) i 0 ≡ v
get_same [] i v below = absurd (omega arith)
get_same (x ∷ xs) zero v below = refl
get_same (x ∷ xs) (suc i) v below = get_same xs i v (omega arith)

get_other : (xs : List ℕ) (i j v : ℕ) → (i ≡ j → ⊥) → get_or (set xs i v) j 0 ≡ get_or xs j 0
get_other [] i j v other = refl
get_other (x ∷ xs) zero zero v other = absurd (other refl)
get_other (x ∷ xs) zero (suc j) v other = refl
get_other (x ∷ xs) (suc i) zero v other = refl
get_other (x ∷ xs) (suc i) (suc j) v other = get_other xs i j v (λ e. other (ap suc e))

get_any : (xs : List ℕ) (i d e : ℕ) → i < length xs → get_or xs i d ≡ get_or xs i e
get_any [] i d e below = absurd (omega arith)
get_any (x ∷ xs) zero d e below = refl
get_any (x ∷ xs) (suc i) d e below = get_any xs i d e (omega arith)

pub done_turn : (old left : List ℕ) (picked : ℕ → Bool) (i v k : ℕ) → i < length left → v ≡ get_or left i v → k ≡ cond (picked i) 1 0 → (picked i ≡ true → 1 ≤ get_or old i 0)
    → ((j : ℕ) → j < i → get_or left j 0 + cond (picked j) 1 0 ≡ get_or old j 0) → ((j : ℕ) → i ≤ j → get_or left j 0 ≡ get_or old j 0)
    → (j : ℕ) → j < i + 1 → get_or (set left i (v - k)) j 0 + cond (picked j) 1 0 ≡ get_or old j 0
done_turn old left picked i v k below is one fits done rest j low = by (cases_lt j i)
  where
    enough : (b : Bool) → picked i ≡ b → cond b 1 0 ≤ get_or old i 0
    enough true e = fits e
    enough false e = omega arith

    by : (j < i) ⊎ (i ≤ j) → get_or (set left i (v - k)) j 0 + cond (picked j) 1 0 ≡ get_or old j 0
    by (inl less) = ap (λ m. m + cond (picked j) 1 0) (get_other left i j (v - k) (λ e. omega (arith, less, e))) ∙ done j less
    by (inr more) =
        let same : i ≡ j = omega (arith, more, low) in
        let here : get_or (set left i (v - k)) i 0 ≡ v - k = get_same left i (v - k) below in
        let most : cond (picked i) 1 0 ≤ get_or old i 0 = enough (picked i) refl in
        let was : get_or left i 0 ≡ get_or old i 0 = rest i (omega arith) in
        subst (λ m. get_or (set left i (v - k)) m 0 + cond (picked m) 1 0 ≡ get_or old m 0) same (omega (arith, here, most, was, is ∙ get_any left i v 0 below, one))

pub rest_turn : (old left : List ℕ) (i v : ℕ) → ((j : ℕ) → i ≤ j → get_or left j 0 ≡ get_or old j 0) → (j : ℕ) → i + 1 ≤ j → get_or (set left i v) j 0 ≡ get_or old j 0
rest_turn old left i v rest j low = get_other left i j v (λ e. omega (arith, low, e)) ∙ rest j (omega (arith, low))

pub byte_is : (b : Bool) → bool_byte b ≡ cond b 1 0
byte_is true = refl
byte_is false = refl

pub opened_turn : (rooms : List Room) (picks : List Bool) (n i : ℕ) (r : Room) (old new : ℕ) → AreAscending rooms → slice_get rooms i ≡ Some r
    → new + cond (get_or picks (n * length rooms + i) false) 1 0 ≡ old → old + count_by (λ m. picks_in rooms picks m r.sub) (done n) ≡ r.left
    → new + count_by (λ m. picks_in rooms picks m r.sub) (done (n + 1)) ≡ r.left
opened_turn rooms picks n i r old new up at counted was =
    let here : ◌≡◌ {A = ℕ} (cond (picks_in rooms picks n r.sub) 1 0) (cond (get_or picks (n * length rooms + i) false) 1 0) = ap (λ b. cond b 1 0) (pick_at rooms picks n i r up at) in
    let more = ap (count_by (λ m. picks_in rooms picks m r.sub)) (done_more n) in
    let all = sum_by-cons (λ m. cond (picks_in rooms picks m r.sub) 1 0) n (done n) in
    omega (arith, here, more, all, counted, was)

pub room_at : (rooms : List Room) (i : ℕ) → i < length rooms → (r : Room) × (slice_get rooms i ≡ Some r)
room_at [] i below = absurd (omega arith)
room_at (v ∷ rooms) zero below = (v, refl)
room_at (v ∷ rooms) (suc i) below = room_at rooms i (omega arith)

pub there_at : (rooms : List Room) (i : ℕ) (r : Room) → slice_get rooms i ≡ Some r → i < length rooms
there_at [] i r at = cc
there_at (v ∷ rooms) zero r at = omega arith
there_at (v ∷ rooms) (suc i) r at = let low = there_at rooms i r at in omega (arith, low)

pub unfit_at : (rooms : List Room) (picks : List Bool) (left seen : List ℕ) (k : ℕ) → AreAscending rooms → length left ≡ length rooms → seen ≡ left
    → ((i : ℕ) (r : Room) → slice_get rooms i ≡ Some r → get_or left i 0 + count_by (λ m. picks_in rooms picks m r.sub) (done k) ≡ r.left)
    → (i : ℕ) → i < length seen → get_or picks (k * length rooms + i) false ≡ true → get_or seen i 0 ≡ 0 → fit_all (picks_in rooms picks) rooms (k ∷ done k) ≡ false
unfit_at rooms picks left seen k up long same opens i below picked none =
    let r = room_at rooms i (omega (arith, below, long, ap length same)) in
    unfit_from (picks_in rooms picks) rooms (λ j. get_or left j 0) (done k) k i r.0 r.1 (opens i r.0 r.1) (pick_at rooms picks k i r.0 up r.1 ∙ picked) (sym (ap (λ xs. get_or xs i 0) same) ∙ none)

-- as long as they fit all are served
pub served_all : (picks : ℕ → SubNo → Bool) (rooms : List Room) (k : ℕ) → has_rooms rooms ≡ true → fit_all picks rooms (done k) ≡ true → length (serves_by_place (ByBroadcast picks) rooms (places k)) ≡ k
served_all picks rooms zero some fit = refl
served_all picks rooms (suc k) some fit =
    let next : suc k ≡ k + 1 = omega arith in
    let one : fit_all picks rooms (k ∷ done k) ≡ true = ap (fit_all picks rooms) (sym (done_more k) ∙ ap done (sym next)) ∙ fit in
    let rest = served_all picks rooms k some (fits_less picks rooms k (done k) one) in
    let more = serves_fit picks rooms k some one in
    let is = ap (λ m. length (serves_by_place (ByBroadcast picks) rooms (places m))) next in
    omega (arith, rest, more, is)

pub no_room : (rooms : List Room) → length rooms ≡ 0 → rooms ≡ []
no_room [] e = refl
no_room (v ∷ rooms) e = absurd (omega (arith, e))

pub some_room : (rooms : List Room) → 1 ≤ length rooms → has_rooms rooms ≡ true
some_room [] e = absurd (omega (arith, e))
some_room (v ∷ rooms) e = refl

-- what is sent of the first, of all
pub all_sends : (picks : ℕ → SubNo → Bool) (rooms : List Room) (k waiting : ℕ) → k ≤ waiting → fit_all picks rooms (k ∷ done k) ≡ false
    → sends_by_place (ByBroadcast picks) rooms (places k) ≡ sends_by_place (ByBroadcast picks) rooms (places waiting)
all_sends picks rooms k waiting most h =
    let rest : k + (waiting - k) ≡ waiting = omega (arith, most) in
    sym (stop_sends picks rooms k (waiting - k) h) ∙ ap (λ m. sends_by_place (ByBroadcast picks) rooms (places m)) rest

pub all_serves : (picks : ℕ → SubNo → Bool) (rooms : List Room) (k waiting : ℕ) → k ≤ waiting → fit_all picks rooms (k ∷ done k) ≡ false
    → length (serves_by_place (ByBroadcast picks) rooms (places k)) ≡ length (serves_by_place (ByBroadcast picks) rooms (places waiting))
all_serves picks rooms k waiting most h =
    let rest : k + (waiting - k) ≡ waiting = omega (arith, most) in
    ap length (sym (stop_serves picks rooms k (waiting - k) h)) ∙ ap (λ m. length (serves_by_place (ByBroadcast picks) rooms (places m))) rest
