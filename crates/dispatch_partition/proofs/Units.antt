-- What the partition rule sends of one unit.
use Rattle.std.proofs.Common.{◌≡◌, ◌≢◌, ℕ, ◌+◌, ◌-◌, ◌<◌, ◌≤◌, ⊎_elim, List, [], ◌∷◌, ◌++◌, length, get_or, take, suc, zero, refl, ap, sym, ◌∙◌, arith, map, set, subst}
use Rattle.std.specs.Prelude.{Bool, true, false, not, cond, filter, find, count_by, nat_lt, ◌==◌, ◌&&◌, if◌then◌else◌, Option, None, Some, position}
use Rattle.std.specs.List.{position_or_len}
use Rattle.std.specs.Option.{option_map, option_to_list}
use Rattle.std.proofs.lemmas.Bool.{cases_lt}
use Rattle.std.proofs.lemmas.Bool.Decides.{nat_tests}
use Rattle.std.proofs.lemmas.List.{take_more, length-take-le}
use Rattle.std.proofs.lemmas.List.Quantifiers.{position-Some}
use Rattle.std.proofs.lemmas.List.Sums.{count_by_more_yes, count_by_more_no}
use Rattle.pipe_types.specs.declared.numbers.SubNo.{SubNo}
use Rattle.pipe_types.specs.declared.room.Room.{Room}
use Rattle.pipe_types.specs.declared.room.Sent.{Sent}
use Rattle.pipe_types.specs.Dispatchers.{ByPartition}
use Rattle.pipe_types.specs.Dispatchers.{on_each, sends_by_place}
use Rattle.pipe_types.specs.Rooms.{PartsDiffer}
use Rattle.pipe_types.proofs.Sends.{sends_push, sends_at, turned, count-turned}
use Rattle.dispatch_partition.specs.Left.{next_sub, one_less}

abbrev pub units_of : (part : ℕ) → List ℕ → ℕ
units_of part parts = count_by (λ p. p == part) parts

-- a room with so many units less of its open demand
abbrev pub spent : ℕ → Room → Room
spent n u = record u { left = u.left - n }

-- the room of a part, with what is left of its open demand after units of these parts
abbrev pub left_after : List Room → (parts : List ℕ) → (part : ℕ) → Option Room
left_after rooms parts q = option_map (spent (units_of q parts)) (find (λ u. u.part == q) rooms)

parts_differ_tail : (u : Room) (rooms : List Room) → PartsDiffer (u ∷ rooms) → PartsDiffer rooms
parts_differ_tail u rooms differ i j d lt within = differ (suc i) (suc j) d (omega arith) (omega arith)

-- the rooms to which a unit of the part goes, by the number of units before it of each part
abbrev chosen : (before : ℕ → ℕ) → (part : ℕ) → Room → Bool
chosen before p u = p == u.part && nat_lt (before u.part) u.left

none_chosen : (before : ℕ → ℕ) (p : ℕ) (rooms : List Room) → ((i : ℕ) (d : Room) → i < length rooms → p ≢ (get_or rooms i d).part) → filter (chosen before p) rooms ≡ []
none_chosen before p [] apart = refl
none_chosen before p (u ∷ rooms) apart =
    let other : (p == u.part && nat_lt (before u.part) u.left) ≡ false = other_part p u.part (nat_lt (before u.part) u.left) (apart 0 u (omega arith)) in
    rw other (none_chosen before p rooms (λ i d within. apart (suc i) d (omega arith)))
  where
    other_part : (p q : ℕ) (b : Bool) → p ≢ q → (p == q && b) ≡ false
    other_part p q b ne = grind (arith, nat_tests)

same_part : (a b : ℕ) → (a == b) ≡ true → a ≡ b
same_part a b h = grind (arith, nat_tests)

other_part : (p q : ℕ) (b : Bool) → (q == p) ≡ false → (p == q && b) ≡ false
other_part p q b h = grind (arith, nat_tests)

in_part : (p q m n left : ℕ) → p ≡ q → m ≡ n → m < left → (p == q && nat_lt n left) ≡ true
in_part p q m n left same at lt = grind (arith, nat_tests)

no_demand : (p q m n left : ℕ) → m ≡ n → left ≤ m → (p == q && nat_lt n left) ≡ false
no_demand p q m n left at le = grind (arith, nat_tests)

some_left : (a b : ℕ) → b < a → (a - b == 0) ≡ false
some_left a b lt = grind (arith, nat_tests)

none_left : (a b : ℕ) → a ≤ b → (a - b == 0) ≡ true
none_left a b le = grind (arith, nat_tests)

-- at most one room is chosen: that of the part, as long as it has demand
chosen_room : (before : ℕ → ℕ) (p : ℕ) (rooms : List Room) → PartsDiffer rooms → map (λ u. u.sub) (filter (chosen before p) rooms) ≡ option_to_list (next_sub (option_map (spent (before p)) (find (λ u. u.part == p) rooms)))
chosen_room before p [] differ = refl
chosen_room before p (u ∷ rooms) differ = either (u.part == p) refl (chosen_room before p rooms (parts_differ_tail u rooms differ))
  where
    sub_of : Room → SubNo
    sub_of v = v.sub

    here : u.part ≡ p → map sub_of (filter (chosen before p) (u ∷ rooms)) ≡ option_to_list (next_sub (Some (spent (before p) u)))
    here same =
        let none : filter (chosen before p) rooms ≡ [] = none_chosen before p rooms (λ i d within at. differ 0 (suc i) d (omega arith) (omega arith) (same ∙ at)) in
        rw none (⊎_elim some empty (cases_lt (before p) u.left))
      where
        some : before p < u.left → map sub_of (if chosen before p u then u ∷ [] else []) ≡ option_to_list (next_sub (Some (spent (before p) u)))
        some lt =
            let goes_there : chosen before p u ≡ true = in_part p u.part (before p) (before u.part) u.left (sym same) (ap before (sym same)) lt in
            let rest : (u.left - before p == 0) ≡ false = some_left u.left (before p) lt in
            rw (goes_there, rest)

        empty : u.left ≤ before p → map sub_of (if chosen before p u then u ∷ [] else []) ≡ option_to_list (next_sub (Some (spent (before p) u)))
        empty le =
            let stays : chosen before p u ≡ false = no_demand p u.part (before p) (before u.part) u.left (ap before (sym same)) le in
            let rest : (u.left - before p == 0) ≡ true = none_left u.left (before p) le in
            rw (stays, rest)

    either : (b : Bool) → (u.part == p) ≡ b → map sub_of (filter (chosen before p) rooms) ≡ option_to_list (next_sub (option_map (spent (before p)) (find (λ v. v.part == p) rooms))) → map sub_of (filter (chosen before p) (u ∷ rooms)) ≡ option_to_list (next_sub (option_map (spent (before p)) (if b then Some u else find (λ v. v.part == p) rooms)))
    either true is rest = here (same_part u.part p is)
    either false other rest =
        let stays : chosen before p u ≡ false = other_part p u.part (nat_lt (before u.part) u.left) other in
        rw stays rest

-- The rooms with what is left, as a list

abbrev pub of_part : ℕ → Room → Bool
of_part q u = u.part == q

-- the first room of the part
found_at : (q : ℕ) (rooms : List Room) (at : ℕ) (d : Room) → at < length rooms → of_part q (get_or rooms at d) ≡ true → ((k : ℕ) → k < at → of_part q (get_or rooms k d) ≡ false) → find (of_part q) rooms ≡ Some (get_or rooms at d)
found_at q [] at d within here before = absurd (omega arith)
found_at q (u ∷ rooms) zero d within here before = ap (λ (b : Bool). if b then Some u else find (of_part q) rooms) here
found_at q (u ∷ rooms) (suc at) d within here before =
    ap (λ (b : Bool). if b then Some u else find (of_part q) rooms) (before 0 (omega arith))
    ∙ found_at q rooms at d (omega arith) here (λ k low. before (suc k) (omega arith))

-- another room in its place
set_at : (q : ℕ) (rooms : List Room) (at : ℕ) (v d : Room) → at < length rooms → of_part q v ≡ true → ((k : ℕ) → k < at → of_part q (get_or rooms k d) ≡ false) → find (of_part q) (set rooms at v) ≡ Some v
set_at q [] at v d within here before = absurd (omega arith)
set_at q (u ∷ rooms) zero v d within here before = ap (λ (b : Bool). if b then Some v else find (of_part q) rooms) here
set_at q (u ∷ rooms) (suc at) v d within here before =
    ap (λ (b : Bool). if b then Some u else find (of_part q) (set rooms at v)) (before 0 (omega arith))
    ∙ set_at q rooms at v d (omega arith) here (λ k low. before (suc k) (omega arith))

-- another room in the place of one of another part
set_other : (q : ℕ) (rooms : List Room) (at : ℕ) (v d : Room) → at < length rooms → of_part q (get_or rooms at d) ≡ false → of_part q v ≡ false → find (of_part q) (set rooms at v) ≡ find (of_part q) rooms
set_other q [] at v d within was is = absurd (omega arith)
set_other q (u ∷ rooms) zero v d within was is = ap (λ (b : Bool). if b then Some v else find (of_part q) rooms) is ∙ sym (ap (λ (b : Bool). if b then Some u else find (of_part q) rooms) was)
set_other q (u ∷ rooms) (suc at) v d within was is = ap (λ (o : Option Room). if u.part == q then Some u else o) (set_other q rooms at v d (omega arith) was is)

beyond : (q : ℕ) (rooms : List Room) → length rooms ≤ position_or_len (of_part q) rooms → find (of_part q) rooms ≡ None
beyond q [] h = refl
beyond q (u ∷ rooms) h = by (u.part == q) refl h (beyond q rooms)
  where
    by : (b : Bool) → (u.part == q) ≡ b → suc (length rooms) ≤ cond (not b) (1 + position_or_len (of_part q) rooms) 0
        → (length rooms ≤ position_or_len (of_part q) rooms → find (of_part q) rooms ≡ None) → (if b then Some u else find (of_part q) rooms) ≡ None
    by true e h rest = absurd (omega arith)
    by false e h rest = rest (omega arith)

nowhere : (q : ℕ) (rooms : List Room) → position (of_part q) rooms ≡ None → find (of_part q) rooms ≡ None
nowhere q rooms none = by (nat_lt (position_or_len (of_part q) rooms) (length rooms)) refl none
  where
    by : (b : Bool) → nat_lt (position_or_len (of_part q) rooms) (length rooms) ≡ b → cond b (Some (position_or_len (of_part q) rooms)) None ≡ None → find (of_part q) rooms ≡ None
    by true e h = cc
    by false e h = let past : length rooms ≤ position_or_len (of_part q) rooms = grind (arith, nat_tests) in beyond q rooms past

-- one unit less in the first room of the part
pub taken_rest : (part : ℕ) (rooms : List Room) (at : ℕ) (room v : Room) → position (of_part part) rooms ≡ Some at → room ≡ get_or rooms at room → v ≡ record room { left = room.left - 1 }
    → (q : ℕ) → find (of_part q) (set rooms at v) ≡ (if part == q then one_less (find (of_part q) rooms) else find (of_part q) rooms)
taken_rest part rooms at room v found read is q = either (part == q) refl
  where
    here : (at < length rooms) × (of_part part (get_or rooms at room) ≡ true) × ((k : ℕ) → k < at → of_part part (get_or rooms k room) ≡ false)
    here = position-Some (of_part part) rooms at room found

    spent_room : v ≡ record (get_or rooms at room) { left = (get_or rooms at room).left - 1 }
    spent_room = is ∙ ap (λ (u : Room). record u { left = u.left - 1 }) read

    part_is : v.part ≡ part
    part_is = ap (λ (u : Room). u.part) spent_room ∙ same_part (get_or rooms at room).part part here.1

    at_part : find (of_part part) (set rooms at v) ≡ one_less (find (of_part part) rooms)
    at_part =
        set_at part rooms at v room here.0 (ap (of_part part) spent_room ∙ here.1) here.2
        ∙ (ap (λ (u : Room). Some u) spent_room ∙ sym (ap one_less (found_at part rooms at room here.0 here.1 here.2)))

    either : (b : Bool) → (part == q) ≡ b → find (of_part q) (set rooms at v) ≡ (if b then one_less (find (of_part q) rooms) else find (of_part q) rooms)
    either true e = subst (λ (n : ℕ). find (of_part n) (set rooms at v) ≡ one_less (find (of_part n) rooms)) (same_part part q e) at_part
    either false e =
        set_other q rooms at v room here.0
        (ap (λ (n : ℕ). n == q) (same_part (get_or rooms at room).part part here.1) ∙ e)
        (ap (λ (n : ℕ). n == q) part_is ∙ e)

pub taken_sub : (part : ℕ) (rooms : List Room) (at : ℕ) (room : Room) → position (of_part part) rooms ≡ Some at → room ≡ get_or rooms at room → next_sub (Some room) ≡ next_sub (find (of_part part) rooms)
taken_sub part rooms at room found read =
    let here = position-Some (of_part part) rooms at room found in
    ap (λ (u : Room). next_sub (Some u)) read ∙ sym (ap next_sub (found_at part rooms at room here.0 here.1 here.2))

-- no room of the part
pub none_rest : (part : ℕ) (rooms : List Room) → position (of_part part) rooms ≡ None → (q : ℕ) → find (of_part q) rooms ≡ (if part == q then one_less (find (of_part q) rooms) else find (of_part q) rooms)
none_rest part rooms none q = either (part == q) refl
  where
    either : (b : Bool) → (part == q) ≡ b → find (of_part q) rooms ≡ (if b then one_less (find (of_part q) rooms) else find (of_part q) rooms)
    either true e = subst (λ (n : ℕ). find (of_part n) rooms ≡ one_less (find (of_part n) rooms)) (same_part part q e) (nowhere part rooms none ∙ sym (ap one_less (nowhere part rooms none)))
    either false e = refl

pub none_sub : (part : ℕ) (rooms : List Room) → position (of_part part) rooms ≡ None → None ≡ next_sub (find (of_part part) rooms)
none_sub part rooms none = sym (ap next_sub (nowhere part rooms none))

-- before the first unit all is left
pub all_left : (rooms : List Room) (q : ℕ) → find (of_part q) rooms ≡ left_after rooms [] q
all_left rooms q = by (find (of_part q) rooms)
  where
    by : (o : Option Room) → o ≡ option_map (spent 0) o
    by None = refl
    by (Some u) = let same : u.left ≡ u.left - 0 = omega arith in ap (λ (m : ℕ). Some (record u { left = m })) same

-- one more unit of a part takes one of what is left of it
left_more : (rooms : List Room) (parts : List ℕ) (k p : ℕ) → k < length parts → p ≡ get_or parts k 0 → (q : ℕ) → left_after rooms (take (k + 1) parts) q ≡ (if p == q then one_less (left_after rooms (take k parts) q) else left_after rooms (take k parts) q)
left_more rooms parts k p within at q = either (p == q) refl
  where
    room : Option Room
    room = find (λ u. u.part == q) rooms

    spent_more : (n : ℕ) (o : Option Room) → option_map (spent (n + 1)) o ≡ one_less (option_map (spent n) o)
    spent_more n None = refl
    spent_more n (Some u) =
        let less : u.left - (n + 1) ≡ u.left - n - 1 = omega arith in
        ap (λ (m : ℕ). Some (record u { left = m })) less

    either : (b : Bool) → (p == q) ≡ b → option_map (spent (units_of q (take (k + 1) parts))) room ≡ (if b then one_less (option_map (spent (units_of q (take k parts))) room) else option_map (spent (units_of q (take k parts))) room)
    either true is =
        let here : (get_or parts k 0 == q) ≡ true = ap (λ (n : ℕ). n == q) (sym at) ∙ is in
        let more : units_of q (take (k + 1) parts) ≡ units_of q (take k parts) + 1 = count_by_more_yes (λ m. m == q) parts k 0 within here in
        ap (λ (n : ℕ). option_map (spent n) room) more ∙ spent_more (units_of q (take k parts)) room
    either false other =
        let here : (get_or parts k 0 == q) ≡ false = ap (λ (n : ℕ). n == q) (sym at) ∙ other in
        let same : units_of q (take (k + 1) parts) ≡ units_of q (take k parts) = count_by_more_no (λ m. m == q) parts k 0 within here in
        ap (λ (n : ℕ). option_map (spent n) room) same

pub left_step : (rooms : List Room) (parts : List ℕ) (k p : ℕ) → k < length parts → p ≡ get_or parts k 0 → (q : ℕ) (old new : Option Room) → old ≡ left_after rooms (take k parts) q → new ≡ (if p == q then one_less old else old) → new ≡ left_after rooms (take (k + 1) parts) q
left_step rooms parts k p within at q old new before now =
    now
    ∙ ap (λ (o : Option Room). if p == q then one_less o else o) before
    ∙ sym (left_more rooms parts k p within at q)

abbrev pub sent_on : (unit : ℕ) → SubNo → Sent
sent_on unit sub = record { unit = unit; sub = sub }

each_sub : (n : ℕ) (rooms : List Room) → on_each n rooms ≡ map (sent_on n) (map (λ u. u.sub) rooms)
each_sub n [] = refl
each_sub n (u ∷ rooms) = ap (λ (l : List Sent). sent_on n u.sub ∷ l) (each_sub n rooms)

-- the next unit goes to the room of its part, as long as there is something left of its open demand
sends_more : (rooms : List Room) (parts : List ℕ) (k p : ℕ) → PartsDiffer rooms → k < length parts → p ≡ get_or parts k 0 → sends_by_place ByPartition rooms (take (k + 1) parts) ≡ sends_by_place ByPartition rooms (take k parts) ++ map (sent_on k) (option_to_list (next_sub (left_after rooms (take k parts) p)))
sends_more rooms parts k p differ within at =
    let whole : take (k + 1) parts ≡ take k parts ++ p ∷ [] = take_more parts k 0 within ∙ ap (λ (n : ℕ). take k parts ++ n ∷ []) (sym at) in
    let place : length (take k parts) ≡ k = length-take-le k parts (omega arith) in
    let before : ℕ → ℕ = λ q. units_of q (turned (take k parts) []) in
    let none : units_of p [] ≡ 0 = refl in
    let count : units_of p (turned (take k parts) []) ≡ units_of p (take k parts) = omega (arith, count-turned (λ m. m == p) (take k parts) []) in
    ap (λ (l : List ℕ). sends_by_place ByPartition rooms l) whole
    ∙ sends_push ByPartition rooms (take k parts) p
    ∙ ap (λ (n : ℕ). sends_by_place ByPartition rooms (take k parts) ++ sends_at ByPartition rooms (turned (take k parts) []) n p) place
    ∙ ap (λ (l : List Sent). sends_by_place ByPartition rooms (take k parts) ++ l)
    (each_sub k (filter (chosen before p) rooms)
    ∙ ap (λ (l : List SubNo). map (sent_on k) l) (chosen_room before p rooms differ)
    ∙ ap (λ (n : ℕ). map (sent_on k) (option_to_list (next_sub (option_map (spent n) (find (λ u. u.part == p) rooms))))) count)

pub one_unit : (rooms : List Room) (parts : List ℕ) (k p : ℕ) → PartsDiffer rooms → k < length parts → p ≡ get_or parts k 0 → (rest : Option Room) → rest ≡ left_after rooms (take k parts) p → (taken : Option SubNo) → taken ≡ next_sub rest → (old new : List Sent) → old ≡ sends_by_place ByPartition rooms (take k parts) → new ≡ old ++ map (sent_on k) (option_to_list taken) → new ≡ sends_by_place ByPartition rooms (take (k + 1) parts)
one_unit rooms parts k p differ within at rest is taken takes old new before now =
    now
    ∙ ap (λ (l : List Sent). l ++ map (sent_on k) (option_to_list taken)) before
    ∙ ap (λ (o : Option SubNo). sends_by_place ByPartition rooms (take k parts) ++ map (sent_on k) (option_to_list o)) (takes ∙ ap next_sub is)
    ∙ sym (sends_more rooms parts k p differ within at)
