-- No dispatch sends more than was asked.
use Rattle.std.proofs.Common.{◌≡◌, ℕ, ◌+◌, ◌-◌, ◌<◌, ◌≤◌, List, [], ◌∷◌, ◌++◌, map, length, Bool, true, false, refl, ap, sym, ◌∙◌, subst, Some, None, Option, arith}
use Rattle.std.specs.Prelude.{if◌then◌else◌, nat_le, nat_lt, ◌&&◌, ◌==◌, cond, filter, count_by}
use Rattle.std.specs.List.{list_all}
use Rattle.std.proofs.lemmas.Bool.Decides.{nat_tests}
use Rattle.std.proofs.lemmas.List.Sums.{sum_by-cons}
use Rattle.pipe_laws.proofs.Tests.{and_left, and_right, same_sub-true}
use Rattle.pipe_laws.proofs.Numbers.{AscendFrom, SubsAscendFrom, live_subs_ascend}
use Rattle.pipe_types.specs.declared.numbers.StageNo.{StageNo}
use Rattle.pipe_types.specs.declared.numbers.SubNo.{SubNo}
use Rattle.pipe_types.specs.declared.room.Room.{Room}
use Rattle.pipe_types.specs.declared.room.Sent.{Sent as SentUnit}
use Rattle.pipe_types.specs.declared.topology.Topology.{Topology}
use Rattle.pipe_types.specs.declared.step.Step.{Step}
use Rattle.pipe_types.specs.declared.step.Step.TheVariants.{Ask, Dispatch}
use Rattle.pipe_types.specs.Numbers.{same_sub}
use Rattle.pipe_types.specs.Dispatchers.{Serving, ByDemand, ByBroadcast, ByPartition, ahead, fit_all, goes, on_each, sends_from, sends}
use Rattle.pipe_types.specs.Stages.{spec_of}
use Rattle.pipe_model.specs.History.{History, asked, asked_after}
use Rattle.pipe_model.specs.Lives.{live_subs}
use Rattle.pipe_model.specs.Flow.{sent, view_of, count_on, rooms_by, sends_by, index_in}

pub count_on-append : (xs ys : List SentUnit) (u : SubNo) → count_on (xs ++ ys) u ≡ count_on xs u + count_on ys u
count_on-append [] ys u = omega arith
count_on-append (d ∷ xs) ys u = either (same_sub d.sub u) (count_on-append xs ys u)
  where
    either : (b : Bool) → count_on (xs ++ ys) u ≡ count_on xs u + count_on ys u → (if b then count_on (xs ++ ys) u + 1 else count_on (xs ++ ys) u) ≡ (if b then count_on xs u + 1 else count_on xs u) + count_on ys u
    either true e = omega arith
    either false e = e

-- the rooms stand in order of their consumers
abbrev RoomsAscendFrom : ℕ → List Room → Type 0
RoomsAscendFrom low [] = Unit {0}
RoomsAscendFrom low (r ∷ rooms) = (low < r.sub.consumer.0) × RoomsAscendFrom r.sub.consumer.0 rooms

abbrev room_of : List Room → SubNo → Option Room
room_of [] u = None
room_of (r ∷ rooms) u = if same_sub r.sub u then Some r else room_of rooms u

abbrev as_number : Bool → ℕ
as_number true = 1
as_number false = 0

abbrev passing : (Room → Bool) → Option Room → ℕ
passing g None = 0
passing g (Some r) = as_number (g r)

-- a unit is sent on no subscription whose consumer comes before all rooms
none_above : (unit : ℕ) (g : Room → Bool) (low : ℕ) (rooms : List Room) (u : SubNo) → RoomsAscendFrom low rooms → u.consumer.0 ≤ low → count_on (on_each unit (filter g rooms)) u ≡ 0
none_above unit g low [] u h le = refl
none_above unit g low (r ∷ rooms) u h le =
    either (g r) (same_sub r.sub u) refl (none_above unit g r.sub.consumer.0 rooms u h.1 (omega (arith, h.0)))
  where
    either : (a b : Bool) → same_sub r.sub u ≡ b → count_on (on_each unit (filter g rooms)) u ≡ 0 → count_on (on_each unit (cond a (r ∷ filter g rooms) (filter g rooms))) u ≡ 0
    either false b e rest = rest
    either true true e rest =
        absurd (let same : r.sub.consumer.0 ≡ u.consumer.0 = ap (λ v. v.consumer.0) (same_sub-true r.sub u e) in omega (arith, h.0))
    either true false e rest = rw e rest

-- a unit is sent on a subscription once, where the rule lets it go there
count_each : (unit : ℕ) (g : Room → Bool) (low : ℕ) (rooms : List Room) (u : SubNo) → RoomsAscendFrom low rooms → count_on (on_each unit (filter g rooms)) u ≡ passing g (room_of rooms u)
count_each unit g low [] u h = refl
count_each unit g low (r ∷ rooms) u h =
    either (g r) refl (same_sub r.sub u) refl (count_each unit g r.sub.consumer.0 rooms u h.1)
  where
    alone : same_sub r.sub u ≡ true → count_on (on_each unit (filter g rooms)) u ≡ 0
    alone e =
        let same : r.sub.consumer.0 ≡ u.consumer.0 = ap (λ v. v.consumer.0) (same_sub-true r.sub u e) in
        none_above unit g r.sub.consumer.0 rooms u h.1 (omega arith)

    here : (a : Bool) → same_sub r.sub u ≡ true → count_on (on_each unit (cond a (r ∷ filter g rooms) (filter g rooms))) u ≡ as_number a
    here true e = rw (e, alone e) refl
    here false e = alone e

    elsewhere : (a : Bool) → same_sub r.sub u ≡ false → count_on (on_each unit (filter g rooms)) u ≡ passing g (room_of rooms u) → count_on (on_each unit (cond a (r ∷ filter g rooms) (filter g rooms))) u ≡ passing g (room_of rooms u)
    elsewhere true e rest = rw e rest
    elsewhere false e rest = rest

    either : (a : Bool) → g r ≡ a → (b : Bool) → same_sub r.sub u ≡ b → count_on (on_each unit (filter g rooms)) u ≡ passing g (room_of rooms u) → count_on (on_each unit (cond a (r ∷ filter g rooms) (filter g rooms))) u ≡ passing g (if b then Some r else room_of rooms u)
    either a f true e rest = here a e ∙ ap as_number (sym f)
    either a f false e rest = elsewhere a e rest

-- what a rule counts over the parts of the units before, for each unit that it sends one more and below the cap
pub record Counts (rule : List ℕ → ℕ → Bool) (count : List ℕ → ℕ) (cap : ℕ) : Type 0 where
  pub grows : (earlier : List ℕ) (part : ℕ) → count earlier ≤ count (part ∷ earlier)
  pub below : (earlier : List ℕ) (part : ℕ) → rule earlier part ≡ true → count earlier < cap
  pub one_more : (earlier : List ℕ) (part : ℕ) → rule earlier part ≡ true → count earlier + 1 ≤ count (part ∷ earlier)

-- where the rule counts up to a cap, no more than that is sent on the room's subscription
sends_within : (kind : Serving) (low : ℕ) (rooms : List Room) (u : SubNo) (r : Room) (count : List ℕ → ℕ) (cap : ℕ) → RoomsAscendFrom low rooms → room_of rooms u ≡ Some r → Counts (λ earlier part. goes kind rooms earlier part r) count cap → (earlier : List ℕ) (units : List (ℕ × ℕ)) → count_on (sends_from kind rooms earlier units) u ≤ cap - count earlier
sends_within kind low rooms u r count cap ascend is counts earlier [] = omega arith
sends_within kind low rooms u r count cap ascend is counts earlier (unit ∷ units) =
    let each : count_on (on_each unit.0 (filter (goes kind rooms earlier unit.1) rooms)) u ≡ as_number (goes kind rooms earlier unit.1 r) =
    count_each unit.0 (goes kind rooms earlier unit.1) low rooms u ascend ∙ ap (passing (goes kind rooms earlier unit.1)) is in
    let both_parts : count_on (sends_from kind rooms earlier (unit ∷ units)) u ≡ count_on (on_each unit.0 (filter (goes kind rooms earlier unit.1) rooms)) u + count_on (sends_from kind rooms (unit.1 ∷ earlier) units) u =
    count_on-append _ (sends_from kind rooms (unit.1 ∷ earlier) units) u in
    either (goes kind rooms earlier unit.1 r) refl each both_parts (sends_within kind low rooms u r count cap ascend is counts (unit.1 ∷ earlier) units)
  where
    either : (b : Bool) → goes kind rooms earlier unit.1 r ≡ b → count_on (on_each unit.0 (filter (goes kind rooms earlier unit.1) rooms)) u ≡ as_number b → count_on (sends_from kind rooms earlier (unit ∷ units)) u ≡ count_on (on_each unit.0 (filter (goes kind rooms earlier unit.1) rooms)) u + count_on (sends_from kind rooms (unit.1 ∷ earlier) units) u → count_on (sends_from kind rooms (unit.1 ∷ earlier) units) u ≤ cap - count (unit.1 ∷ earlier) → count_on (sends_from kind rooms earlier (unit ∷ units)) u ≤ cap - count earlier
    either true sends each sum rest = omega (arith, counts.below earlier unit.1 sends, counts.one_more earlier unit.1 sends)
    either false stays each sum rest = omega (arith, counts.grows earlier unit.1)

sends_none : (kind : Serving) (low : ℕ) (rooms : List Room) (u : SubNo) → RoomsAscendFrom low rooms → room_of rooms u ≡ None → (earlier : List ℕ) (units : List (ℕ × ℕ)) → count_on (sends_from kind rooms earlier units) u ≡ 0
sends_none kind low rooms u ascend is earlier [] = refl
sends_none kind low rooms u ascend is earlier (unit ∷ units) =
    let each : count_on (on_each unit.0 (filter (goes kind rooms earlier unit.1) rooms)) u ≡ 0 =
    count_each unit.0 (goes kind rooms earlier unit.1) low rooms u ascend ∙ ap (passing (goes kind rooms earlier unit.1)) is in
    let rest : count_on (sends_from kind rooms (unit.1 ∷ earlier) units) u ≡ 0 = sends_none kind low rooms u ascend is (unit.1 ∷ earlier) units in
    let sum : count_on (sends_from kind rooms earlier (unit ∷ units)) u ≡ count_on (on_each unit.0 (filter (goes kind rooms earlier unit.1) rooms)) u + count_on (sends_from kind rooms (unit.1 ∷ earlier) units) u =
    count_on-append _ (sends_from kind rooms (unit.1 ∷ earlier) units) u in
    omega arith

demand_counts : (rooms : List Room) (r : Room) → Counts (λ earlier part. goes ByDemand rooms earlier part r) (λ earlier. length earlier - ahead rooms r) r.left
demand_counts rooms r = window (ahead rooms r) r.left
  where
    window : (a left : ℕ) → Counts (λ earlier part. nat_le a (length earlier) && nat_lt (length earlier) (a + left)) (λ earlier. length earlier - a) left
    window a left =
        record {
          grows = λ earlier n. omega arith;
          below = λ earlier n h. grind (arith, nat_tests);
          one_more = λ earlier n h. grind (arith, nat_tests);
        }

-- what every room of the list passes, the subscription's own room passes
every_room : (test : Room → Bool) (rooms : List Room) (u : SubNo) (r : Room) → room_of rooms u ≡ Some r → list_all test rooms ≡ true → test r ≡ true
every_room test [] u r is every = cc
every_room test (v ∷ rooms) u r is every =
    either (same_sub v.sub u) is (and_left (test v) _ every) (λ later. every_room test rooms u r later (and_right (test v) _ every))
  where
    either : (b : Bool) → (if b then Some v else room_of rooms u) ≡ Some r → test v ≡ true → (room_of rooms u ≡ Some r → test r ≡ true) → test r ≡ true
    either true is here rest = let same : v ≡ r = cc in subst (λ w. test w ≡ true) same here
    either false is here rest = rest is

lt_by : (j r : ℕ) → nat_lt j r ≡ true → j < r
lt_by j r h = grind (arith, nat_tests)

counted_grows : (b : Bool) (k : ℕ) → k ≤ cond b 1 0 + k
counted_grows true k = omega arith
counted_grows false k = omega arith

counted_more : (b : Bool) (k : ℕ) → b ≡ true → k + 1 ≤ cond b 1 0 + k
counted_more true k h = omega arith
counted_more false k h = cc

-- the units that the room's subscription picks, of which no more are served than it asked for
broadcast_counts : (picks : ℕ → SubNo → Bool) (rooms : List Room) (u : SubNo) (r : Room) → room_of rooms u ≡ Some r → Counts (λ earlier part. goes (ByBroadcast picks) rooms earlier part r) (count_by (λ m. picks m r.sub)) r.left
broadcast_counts picks rooms u r is =
    record {
      grows = λ earlier n. rw sum_by-cons (counted_grows (picks n r.sub) (count_by (λ m. picks m r.sub) earlier));
      below = λ earlier n h.
          le_one (picks n r.sub) (count_by (λ m. picks m r.sub) earlier) r.left (and_right (fit_all picks rooms (n ∷ earlier)) _ h)
          (let fits : nat_le (count_by (λ m. picks m r.sub) (n ∷ earlier)) r.left ≡ true = every_room (λ v. nat_le (count_by (λ m. picks m v.sub) (n ∷ earlier)) v.left) rooms u r is (and_left (fit_all picks rooms (n ∷ earlier)) _ h) in
          ap (λ k. nat_le k r.left) (sym (sum_by-cons (λ m. cond (picks m r.sub) 1 0) n earlier)) ∙ fits);
      one_more = λ earlier n h. rw sum_by-cons (counted_more (picks n r.sub) (count_by (λ m. picks m r.sub) earlier) (and_right (fit_all picks rooms (n ∷ earlier)) _ h));
    }
  where
    le_one : (b : Bool) (k left : ℕ) → b ≡ true → nat_le (cond b 1 0 + k) left ≡ true → k < left
    le_one true k left e h = grind (arith, nat_tests)
    le_one false k left e h = cc

partition_counts : (rooms : List Room) (r : Room) → Counts (λ earlier part. goes ByPartition rooms earlier part r) (count_by (λ p. p == r.part)) r.left
partition_counts rooms r =
    record {
      grows = λ earlier n. rw sum_by-cons (counted_grows (n == r.part) (count_by (λ p. p == r.part) earlier));
      below = λ earlier n h. lt_by (count_by (λ p. p == r.part) earlier) r.left (and_right (n == r.part) _ h);
      one_more = λ earlier n h. rw sum_by-cons (counted_more (n == r.part) (count_by (λ p. p == r.part) earlier) (and_left (n == r.part) _ h));
    }

-- whichever the rule, no more than the room's open demand
room_bound : (kind : Serving) (low : ℕ) (rooms : List Room) (u : SubNo) (r : Room) (units : List (ℕ × ℕ)) → RoomsAscendFrom low rooms → room_of rooms u ≡ Some r → count_on (sends kind rooms units) u ≤ r.left
room_bound ByDemand low rooms u r units ascend is = omega (arith, sends_within ByDemand low rooms u r _ r.left ascend is (demand_counts rooms r) [] units)
room_bound (ByBroadcast picks) low rooms u r units ascend is = omega (arith, sends_within (ByBroadcast picks) low rooms u r _ r.left ascend is (broadcast_counts picks rooms u r is) [] units)
room_bound ByPartition low rooms u r units ascend is = omega (arith, sends_within ByPartition low rooms u r _ r.left ascend is (partition_counts rooms r) [] units)

-- a bound on the open demand of the subscription's room bounds what is sent on it
pub sends_bound : (kind : Serving) (low : ℕ) (rooms : List Room) (u : SubNo) (units : List (ℕ × ℕ)) (bound : ℕ) → RoomsAscendFrom low rooms → ((r : Room) → room_of rooms u ≡ Some r → r.left ≡ bound) → count_on (sends kind rooms units) u ≤ bound
sends_bound kind low rooms u units bound ascend left = either (room_of rooms u) refl
  where
    either : (o : Option Room) → room_of rooms u ≡ o → count_on (sends kind rooms units) u ≤ bound
    either None is = omega (arith, sends_none kind low rooms u ascend is [] units)
    either (Some r) is = let e : r.left ≡ bound = left r is in omega (arith, room_bound kind low rooms u r units ascend is)

-- the rooms of a stage
abbrev room_for : Topology → History → SubNo → Room
room_for topology before u = record { sub = u; part = index_in (spec_of topology u.consumer); left = asked before u - sent topology before u }

rooms_ascend : (topology : Topology) (before : History) (low : ℕ) (subs : List SubNo) → SubsAscendFrom low subs → RoomsAscendFrom low (map (room_for topology before) subs)
rooms_ascend topology before low [] h = tt
rooms_ascend topology before low (u ∷ subs) h = (h.0, rooms_ascend topology before u.consumer.0 subs h.1)

room_left : (topology : Topology) (before : History) (subs : List SubNo) (u : SubNo) (r : Room) → room_of (map (room_for topology before) subs) u ≡ Some r → r.left ≡ asked before u - sent topology before u
room_left topology before [] u r is = cc
room_left topology before (v ∷ subs) u r is = either (same_sub v u) refl is (room_left topology before subs u r)
  where
    either : (b : Bool) → same_sub v u ≡ b → (if b then Some (room_for topology before v) else room_of (map (room_for topology before) subs) u) ≡ Some r → (room_of (map (room_for topology before) subs) u ≡ Some r → r.left ≡ asked before u - sent topology before u) → r.left ≡ asked before u - sent topology before u
    either true same is rest =
        let e : room_for topology before v ≡ r = cc in
        ap (λ w. w.left) (sym e) ∙ ap (λ w. asked before w - sent topology before w) (same_sub-true v u same)
    either false other is rest = rest is

-- a dispatch sends at most the open demand
pub dispatch_within : (topology : Topology) (before : History) (s : StageNo) (u : SubNo) → AscendFrom 0 topology.stages → count_on (sends_by topology before (view_of topology before) s) u ≤ asked before u - sent topology before u
dispatch_within topology before s u ascend =
    sends_bound _ 0 (rooms_by topology before (view_of topology before) s) u _ _
    (rooms_ascend topology before 0 (live_subs topology before s) (live_subs_ascend topology before s 0 ascend))
    (λ r is. room_left topology before (live_subs topology before s) u r is)

asked_grows : (step : Step) (u : SubNo) (old : ℕ) → old ≤ asked_after step u old
asked_grows (Ask v n) u old = either (same_sub v u)
  where
    either : (b : Bool) → old ≤ (if b then old + n else old)
    either true = omega arith
    either false = omega arith
asked_grows _ u old = omega arith

-- no subscription was sent more than it asked
pub sent_within : (topology : Topology) (before : History) (u : SubNo) → AscendFrom 0 topology.stages → sent topology before u ≤ asked before u
sent_within topology [] u ascend = omega arith
sent_within topology (Dispatch s ∷ before) u ascend =
    let within : sent topology before u ≤ asked before u = sent_within topology before u ascend in
    let bound : count_on (sends_by topology before (view_of topology before) s) u ≤ asked before u - sent topology before u = dispatch_within topology before s u ascend in
    omega arith
sent_within topology (step ∷ before) u ascend = omega (arith, sent_within topology before u ascend, asked_grows step u (asked before u))
