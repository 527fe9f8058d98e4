-- What a consumer has in hand of a subscription: the units that stand in its inbox, and those that it works on.
use Rattle.std.proofs.Common.{◌≡◌, ℕ, ◌+◌, ◌*◌, ◌≤◌, List, [], ◌∷◌, Bool, true, false, refl, ap, sym, ◌∙◌, subst, Some, None, Option, arith}
use Rattle.std.specs.Prelude.{option_map, if◌then◌else◌, ◌==◌, ◌&&◌, ◌||◌}
use Rattle.std.proofs.lemmas.Bool.{eqb-true}
use Rattle.pipe_types.specs.declared.numbers.SubNo.{SubNo}
use Rattle.pipe_types.specs.declared.numbers.StageNo.{StageNo}
use Rattle.pipe_types.specs.declared.topology.Topology.{Topology}
use Rattle.pipe_types.specs.declared.message.Outcome.{Outcome}
use Rattle.pipe_types.specs.declared.message.Why.{Why}
use Rattle.pipe_types.specs.declared.message.Place.{Place}
use Rattle.pipe_types.specs.declared.message.Place.TheVariants.{Inbox, Acked, Lost}
use Rattle.pipe_types.specs.declared.message.BatchEnd.TheVariants.{Outcomes}
use Rattle.pipe_types.specs.declared.step.Step.{Step}
use Rattle.pipe_types.specs.declared.step.Step.TheVariants.{Dispatch, Take, Close, Wrote, Kill, Halt}
use Rattle.pipe_types.specs.Numbers.{same_stage, same_sub}
use Rattle.pipe_types.specs.Stages.{spec_of}
use Rattle.pipe_model.specs.History.{History, closed}
use Rattle.pipe_model.specs.Batches.{Batch, BatchPlace, AtBatcher, Sent, Dropped, Leg, LegPlace, InInbox, AtWork, Answered, on_legs, leg_taken, leg_answered, leg_lost, batch_sent, batch_on_legs}
use Rattle.pipe_model.specs.Lives.{KillSet, reason_in}
use Rattle.pipe_model.specs.Flow.{place, view_of, batch, among, is_batcher, leg_waits, leg_waits_in, in_inbox_by, runs_in, change_place, new_batch, next_units, closing}
use Rattle.pipe_model.specs.Moves.{is_final}
use Rattle.pipe_laws.proofs.Tests.{same_stage-true, same_sub-true, same_sub-self}
use Rattle.pipe_laws.proofs.Places.{Move, stays, comes, comes_lost, sent_on, runs, waits, is_gathered, joins, ends, move_by}
use Rattle.pipe_laws.proofs.Levels.{rank, feeds_down}
use Rattle.pipe_laws.proofs.Entries.{EntryFits, MessageFits, is_sent_batch, sent_exists}
use Rattle.pipe_laws.proofs.Settled.{batch_closed}
use Rattle.pipe_model.specs.Standing.{is_at_work, leg_works, leg_works_in, works}
use Rattle.pipe_model.specs.Counting.{as_number}

-- Legs at work

-- the unit stands in the inbox of the subscription, as a message or by a leg of a batch
abbrev pub stands : Topology → History → SubNo → ℕ → Bool
stands topology before u n = if is_batcher (spec_of topology u.producer) then leg_waits_in u (batch topology before n) else in_inbox_by u (place topology before n)

abbrev pub in_hand : Topology → History → SubNo → ℕ → ℕ
in_hand topology before u n = as_number (stands topology before u n) + as_number (works topology before u n)

-- what an entry of what was sent counts for the subscription
abbrev pub weight : Topology → History → SubNo → SubNo × ℕ → ℕ
weight topology before u d = if same_sub d.0 u then in_hand topology before u d.1 else 0

-- Messages

message_in_hand : StageNo → SubNo → Option Place → ℕ
message_in_hand c u p = as_number (in_inbox_by u p) + as_number (runs_in c p)

final_weighs_none : (c : StageNo) (u : SubNo) (p : Place) → is_final (Some p) ≡ true → message_in_hand c u (Some p) ≡ 0
unfolding message_in_hand
final_weighs_none c u (Acked o) h = refl
final_weighs_none c u (Lost l) h = refl
final_weighs_none c u _ h = cc

message_move : (topology : Topology) (before : History) (step : Step) (u : SubNo) (p q : Option Place) → Move topology before step p q → MessageFits topology u.consumer u p → message_in_hand u.consumer u q ≤ message_in_hand u.consumer u p
unfolding message_in_hand
message_move topology before step u p q stays fits = omega arith
message_move topology before step u p q (comes s) fits = omega arith
message_move topology before step u p q (comes_lost loss) fits = omega arith
message_move topology before step u p q (sent_on s v on) fits = either (same_sub u v) refl
  where
    either : (b : Bool) → same_sub u v ≡ b → as_number b + 0 ≤ 0
    either true e =
        absurd
        (let down : rank topology v.consumer ≡ rank topology s + 1 = feeds_down topology s v.consumer on.feeding in
        let here : rank topology u.consumer ≡ rank topology v.consumer = ap (λ x. rank topology x.consumer) (same_sub-true u v e) in
        let far : 4 * rank topology u.consumer ≤ 4 * rank topology s + 3 = fits.far in
        omega arith)
    either false e = omega arith
message_move topology before step u p q (runs v from) fits = either (same_stage u.consumer v.consumer) refl
  where
    either : (b : Bool) → same_stage u.consumer v.consumer ≡ b → 0 + as_number b ≤ as_number (same_sub u v) + 0
    either true e =
        let is : v ≡ u = fits.own v refl (sym (same_stage-true u.consumer v.consumer e)) in
        let same : same_sub u v ≡ true = ap (same_sub u) is ∙ same_sub-self u in
        let one : as_number (same_sub u v) ≡ 1 = ap as_number same in
        omega arith
    either false e = omega arith
message_move topology before step u p q (waits s) fits = omega arith
message_move topology before step u p q (is_gathered v) fits = omega arith
message_move topology before step u p q (joins s b from) fits = omega arith
message_move topology before step u p q (ends x y final) fits = omega (arith, final_weighs_none u.consumer u y final)

-- Batches

batch_in_hand : SubNo → Option Batch → ℕ
batch_in_hand u o = as_number (leg_waits_in u o) + as_number (leg_works_in u o)

abbrev is_in_inbox : LegPlace → Bool
is_in_inbox InInbox = true
is_in_inbox _ = false

abbrev pub any_leg : (LegPlace → Bool) → SubNo → List Leg → Bool
any_leg test u [] = false
any_leg test u (leg ∷ legs) = (same_sub u leg.sub && test leg.place) || any_leg test u legs

waits_any : (u : SubNo) (legs : List Leg) → leg_waits u legs ≡ any_leg is_in_inbox u legs
waits_any u [] = refl
waits_any u (leg ∷ legs) = by_place leg.sub leg.place (waits_any u legs)
  where
    by_place : (v : SubNo) (p : LegPlace) → leg_waits u legs ≡ any_leg is_in_inbox u legs → leg_waits u (record { sub = v; place = p } ∷ legs) ≡ any_leg is_in_inbox u (record { sub = v; place = p } ∷ legs)
    by_place v InInbox e = ap (λ b. (same_sub u v && true) || b) e
    by_place v _ e = ap (λ b. (same_sub u v && false) || b) e

works_any : (u : SubNo) (legs : List Leg) → leg_works u legs ≡ any_leg is_at_work u legs
works_any u [] = refl
works_any u (leg ∷ legs) = ap (λ b. (same_sub u leg.sub && is_at_work leg.place) || b) (works_any u legs)

any_agree : (f g : LegPlace → Bool) → ((p : LegPlace) → f p ≡ g p) → (u : SubNo) (legs : List Leg) → any_leg f u legs ≡ any_leg g u legs
any_agree f g e u [] = refl
any_agree f g e u (leg ∷ legs) = λ i. (same_sub u leg.sub && e leg.place i) || any_agree f g e u legs i

any_none : (u : SubNo) (legs : List Leg) → any_leg (λ p. false) u legs ≡ false
any_none u [] = refl
any_none u (leg ∷ legs) = either (same_sub u leg.sub) (any_none u legs)
  where
    either : (b : Bool) → any_leg (λ p. false) u legs ≡ false → ((b && false) || any_leg (λ p. false) u legs) ≡ false
    either true e = e
    either false e = e

any_or : (f g : LegPlace → Bool) (u : SubNo) (legs : List Leg) → any_leg (λ p. f p || g p) u legs ≡ (any_leg f u legs || any_leg g u legs)
any_or f g u [] = refl
any_or f g u (leg ∷ legs) = ap (λ b. (same_sub u leg.sub && (f leg.place || g leg.place)) || b) (any_or f g u legs) ∙ regroup (same_sub u leg.sub) (f leg.place) (g leg.place) (any_leg f u legs) (any_leg g u legs)
  where
    regroup : (a b c d e : Bool) → ((a && (b || c)) || (d || e)) ≡ (((a && b) || d) || ((a && c) || e))
    regroup false b c d e = refl
    regroup true true c d e = refl
    regroup true false true true e = refl
    regroup true false true false e = refl
    regroup true false false d e = refl

-- a change of the legs' places, seen from one subscription
any_on_legs : (test : LegPlace → Bool) (change : SubNo → LegPlace → LegPlace) (u : SubNo) (legs : List Leg) → any_leg test u (on_legs change legs) ≡ any_leg (λ p. test (change u p)) u legs
any_on_legs test change u [] = refl
any_on_legs test change u (leg ∷ legs) = either (same_sub u leg.sub) refl (any_on_legs test change u legs)
  where
    either : (b : Bool) → same_sub u leg.sub ≡ b → any_leg test u (on_legs change legs) ≡ any_leg (λ p. test (change u p)) u legs → ((b && test (change leg.sub leg.place)) || any_leg test u (on_legs change legs)) ≡ ((b && test (change u leg.place)) || any_leg (λ p. test (change u p)) u legs)
    either true same e = let back : leg.sub ≡ u = sym (same_sub-true u leg.sub same) in λ i. test (change (back i) leg.place) || e i
    either false other e = e

legs_in_hand : SubNo → List Leg → ℕ
legs_in_hand u legs = as_number (leg_waits u legs) + as_number (leg_works u legs)

-- what a change leaves in hand, where it leaves these places
hand_change : (change : SubNo → LegPlace → LegPlace) (u : SubNo) (w k : LegPlace → Bool) → ((p : LegPlace) → is_in_inbox (change u p) ≡ w p) → ((p : LegPlace) → is_at_work (change u p) ≡ k p) → (legs : List Leg) → (leg_waits u (on_legs change legs) ≡ any_leg w u legs) × (leg_works u (on_legs change legs) ≡ any_leg k u legs)
hand_change change u w k ew ek legs = (
  waits_any u (on_legs change legs) ∙ (any_on_legs is_in_inbox change u legs ∙ any_agree (λ p. is_in_inbox (change u p)) w ew u legs),
  works_any u (on_legs change legs) ∙ (any_on_legs is_at_work change u legs ∙ any_agree (λ p. is_at_work (change u p)) k ek u legs),
)

-- a take moves the legs of its stage from the inbox to work
pub taken_legs : (s : StageNo) (u : SubNo) (legs : List Leg) → same_stage s u.consumer ≡ true → (leg_waits u (on_legs (leg_taken s) legs) ≡ false) × (leg_works u (on_legs (leg_taken s) legs) ≡ (leg_works u legs || leg_waits u legs))
taken_legs s u legs here = both_of (hand_change (leg_taken s) u (λ p. false) (λ p. is_at_work p || is_in_inbox p) waits_none works_more legs)
  where
    waits_none : (p : LegPlace) → is_in_inbox (leg_taken s u p) ≡ false
    waits_none InInbox = rw here refl
    waits_none _ = refl

    works_more : (p : LegPlace) → is_at_work (leg_taken s u p) ≡ (is_at_work p || is_in_inbox p)
    works_more InInbox = rw here refl
    works_more _ = refl

    both_of : (leg_waits u (on_legs (leg_taken s) legs) ≡ any_leg (λ p. false) u legs) × (leg_works u (on_legs (leg_taken s) legs) ≡ any_leg (λ p. is_at_work p || is_in_inbox p) u legs) → (leg_waits u (on_legs (leg_taken s) legs) ≡ false) × (leg_works u (on_legs (leg_taken s) legs) ≡ (leg_works u legs || leg_waits u legs))
    both_of t = (t.0 ∙ any_none u legs, t.1 ∙ (any_or is_at_work is_in_inbox u legs ∙ (let a = works_any u legs in let b = waits_any u legs in λ i. sym a i || sym b i)))

pub taken_legs_other : (s : StageNo) (u : SubNo) (legs : List Leg) → same_stage s u.consumer ≡ false → (leg_waits u (on_legs (leg_taken s) legs) ≡ leg_waits u legs) × (leg_works u (on_legs (leg_taken s) legs) ≡ leg_works u legs)
taken_legs_other s u legs other = both_of (hand_change (leg_taken s) u is_in_inbox is_at_work same_waits same_works legs)
  where
    same_waits : (p : LegPlace) → is_in_inbox (leg_taken s u p) ≡ is_in_inbox p
    same_waits InInbox = rw other refl
    same_waits _ = refl

    same_works : (p : LegPlace) → is_at_work (leg_taken s u p) ≡ is_at_work p
    same_works InInbox = rw other refl
    same_works _ = refl

    both_of : (leg_waits u (on_legs (leg_taken s) legs) ≡ any_leg is_in_inbox u legs) × (leg_works u (on_legs (leg_taken s) legs) ≡ any_leg is_at_work u legs) → (leg_waits u (on_legs (leg_taken s) legs) ≡ leg_waits u legs) × (leg_works u (on_legs (leg_taken s) legs) ≡ leg_works u legs)
    both_of t = (t.0 ∙ sym (waits_any u legs), t.1 ∙ sym (works_any u legs))

-- an answer ends the work of its stage's legs
pub answered_legs : (s : StageNo) (outcomes : List Outcome) (u : SubNo) (legs : List Leg) → (leg_waits u (on_legs (leg_answered s outcomes) legs) ≡ leg_waits u legs) × (leg_works u (on_legs (leg_answered s outcomes) legs) ≡ (if same_stage s u.consumer then false else leg_works u legs))
answered_legs s outcomes u legs = either (same_stage s u.consumer) refl
  where
    same_waits : (p : LegPlace) → is_in_inbox (leg_answered s outcomes u p) ≡ is_in_inbox p
    same_waits AtWork = by_stage (same_stage s u.consumer)
      where
        by_stage : (b : Bool) → is_in_inbox (if b then Answered outcomes else AtWork) ≡ false
        by_stage true = refl
        by_stage false = refl
    same_waits _ = refl

    works_none : same_stage s u.consumer ≡ true → (p : LegPlace) → is_at_work (leg_answered s outcomes u p) ≡ false
    works_none here AtWork = rw here refl
    works_none here _ = refl

    same_works : same_stage s u.consumer ≡ false → (p : LegPlace) → is_at_work (leg_answered s outcomes u p) ≡ is_at_work p
    same_works other AtWork = rw other refl
    same_works other _ = refl

    either : (b : Bool) → same_stage s u.consumer ≡ b → (leg_waits u (on_legs (leg_answered s outcomes) legs) ≡ leg_waits u legs) × (leg_works u (on_legs (leg_answered s outcomes) legs) ≡ (if b then false else leg_works u legs))
    either true here =
        let t = hand_change (leg_answered s outcomes) u is_in_inbox (λ p. false) same_waits (works_none here) legs in
        (t.0 ∙ sym (waits_any u legs), t.1 ∙ any_none u legs)
    either false other =
        let t = hand_change (leg_answered s outcomes) u is_in_inbox is_at_work same_waits (same_works other) legs in
        (t.0 ∙ sym (waits_any u legs), t.1 ∙ sym (works_any u legs))

-- a kill leaves the work of a stage that it spares
pub kept_legs : (set : KillSet) (incarnation : StageNo → ℕ) (u : SubNo) (legs : List Leg) → reason_in set u.consumer ≡ None → leg_works u (on_legs (λ v. leg_lost (reason_in set v.consumer) (incarnation v.consumer) v) legs) ≡ leg_works u legs
kept_legs set incarnation u legs e =
    works_any u (on_legs (λ v. leg_lost (reason_in set v.consumer) (incarnation v.consumer) v) legs)
    ∙ (any_on_legs is_at_work (λ v. leg_lost (reason_in set v.consumer) (incarnation v.consumer) v) u legs
    ∙ (any_agree (λ p. is_at_work (leg_lost (reason_in set u.consumer) (incarnation u.consumer) u p)) is_at_work (λ p. rw e (same p)) u legs ∙ sym (works_any u legs)))
  where
    same : (p : LegPlace) → is_at_work (leg_lost None (incarnation u.consumer) u p) ≡ is_at_work p
    same InInbox = refl
    same _ = refl

taken_weighs : (s : StageNo) (u : SubNo) (legs : List Leg) → legs_in_hand u (on_legs (leg_taken s) legs) ≤ legs_in_hand u legs
unfolding legs_in_hand
taken_weighs s u legs = either (same_stage s u.consumer) refl
  where
    sum : (a b : Bool) → as_number false + as_number (a || b) ≤ as_number b + as_number a
    sum true true = omega arith
    sum true false = omega arith
    sum false true = omega arith
    sum false false = omega arith

    either : (b : Bool) → same_stage s u.consumer ≡ b → as_number (leg_waits u (on_legs (leg_taken s) legs)) + as_number (leg_works u (on_legs (leg_taken s) legs)) ≤ as_number (leg_waits u legs) + as_number (leg_works u legs)
    either true here = let t = taken_legs s u legs here in rw (t.0, t.1) (sum (leg_works u legs) (leg_waits u legs))
    either false other = let t = taken_legs_other s u legs other in rw (t.0, t.1) (omega arith)

answered_weighs : (s : StageNo) (outcomes : List Outcome) (u : SubNo) (legs : List Leg) → legs_in_hand u (on_legs (leg_answered s outcomes) legs) ≤ legs_in_hand u legs
unfolding legs_in_hand
answered_weighs s outcomes u legs =
    let t = answered_legs s outcomes u legs in
    rw (t.0, t.1) (either (same_stage s u.consumer))
  where
    either : (b : Bool) → as_number (leg_waits u legs) + as_number (if b then false else leg_works u legs) ≤ as_number (leg_waits u legs) + as_number (leg_works u legs)
    either true = omega arith
    either false = omega arith

lost_weighs : (set : KillSet) (incarnation : StageNo → ℕ) (u : SubNo) (legs : List Leg) → legs_in_hand u (on_legs (λ v. leg_lost (reason_in set v.consumer) (incarnation v.consumer) v) legs) ≤ legs_in_hand u legs
unfolding legs_in_hand
lost_weighs set incarnation u legs = either (reason_in set u.consumer) refl
  where
    change : SubNo → LegPlace → LegPlace
    change v p = leg_lost (reason_in set v.consumer) (incarnation v.consumer) v p

    either : (why : Option Why) → reason_in set u.consumer ≡ why → as_number (leg_waits u (on_legs (λ v. leg_lost (reason_in set v.consumer) (incarnation v.consumer) v) legs)) + as_number (leg_works u (on_legs (λ v. leg_lost (reason_in set v.consumer) (incarnation v.consumer) v) legs)) ≤ as_number (leg_waits u legs) + as_number (leg_works u legs)
    either None e =
        let t = hand_change (λ v. leg_lost (reason_in set v.consumer) (incarnation v.consumer) v) u is_in_inbox is_at_work (λ p. rw e (same_w p)) (λ p. rw e (same_k p)) legs in
        rw (t.0 ∙ sym (waits_any u legs), t.1 ∙ sym (works_any u legs)) (omega arith)
      where
        same_w : (p : LegPlace) → is_in_inbox (leg_lost None (incarnation u.consumer) u p) ≡ is_in_inbox p
        same_w InInbox = refl
        same_w _ = refl

        same_k : (p : LegPlace) → is_at_work (leg_lost None (incarnation u.consumer) u p) ≡ is_at_work p
        same_k InInbox = refl
        same_k _ = refl
    either (Some why) e =
        let t = hand_change (λ v. leg_lost (reason_in set v.consumer) (incarnation v.consumer) v) u (λ p. false) (λ p. false) (λ p. rw e (none_w p)) (λ p. rw e (none_k p)) legs in
        rw (t.0 ∙ any_none u legs, t.1 ∙ any_none u legs) (omega arith)
      where
        none_w : (p : LegPlace) → is_in_inbox (leg_lost (Some why) (incarnation u.consumer) u p) ≡ false
        none_w InInbox = refl
        none_w _ = refl

        none_k : (p : LegPlace) → is_at_work (leg_lost (Some why) (incarnation u.consumer) u p) ≡ false
        none_k InInbox = refl
        none_k _ = refl

-- a change of a sent batch by its legs
hand_mapped : (u : SubNo) (change : BatchPlace → BatchPlace) (legs_change : SubNo → LegPlace → LegPlace) → ((legs : List Leg) → change (Sent legs) ≡ Sent (on_legs legs_change legs)) → ((legs : List Leg) → legs_in_hand u (on_legs legs_change legs) ≤ legs_in_hand u legs) → (o : Option Batch) → is_sent_batch o ≡ true → batch_in_hand u (option_map (λ x. change_place x (change x.place)) o) ≤ batch_in_hand u o
unfolding batch_in_hand legs_in_hand
hand_mapped u change legs_change is weighs None h = omega arith
hand_mapped u change legs_change is weighs (Some x) h = by_place x.numbers x.place h
  where
    by_place : (numbers : List ℕ) (p : BatchPlace) → is_sent_batch (Some (record { numbers = numbers; place = p })) ≡ true → batch_in_hand u (Some (record { numbers = numbers; place = change p })) ≤ batch_in_hand u (Some (record { numbers = numbers; place = p }))
    by_place numbers (Sent legs) h = rw (is legs) (weighs legs)
    by_place numbers (AtBatcher s) h = cc
    by_place numbers (Dropped l) h = cc

sent_same : (s : StageNo) (is_alone : Bool) (subs : List SubNo) (u : SubNo) (o : Option Batch) → is_sent_batch o ≡ true → batch_in_hand u (option_map (λ x. change_place x (batch_sent s is_alone subs x.place)) o) ≤ batch_in_hand u o
unfolding batch_in_hand
sent_same s is_alone subs u None h = omega arith
sent_same s is_alone subs u (Some x) h = by_place subs x.numbers x.place h
  where
    by_place : (subs : List SubNo) (numbers : List ℕ) (p : BatchPlace) → is_sent_batch (Some (record { numbers = numbers; place = p })) ≡ true → batch_in_hand u (Some (record { numbers = numbers; place = batch_sent s is_alone subs p })) ≤ batch_in_hand u (Some (record { numbers = numbers; place = p }))
    by_place [] numbers (Sent legs) h = omega arith
    by_place [] numbers (AtBatcher t) h = cc
    by_place [] numbers (Dropped l) h = cc
    by_place (v ∷ subs) numbers (Sent legs) h = omega arith
    by_place (v ∷ subs) numbers (AtBatcher t) h = cc
    by_place (v ∷ subs) numbers (Dropped l) h = cc

-- no step puts more of a sent batch in hand
batch_step : (topology : Topology) (before : History) (step : Step) (u : SubNo) (b : ℕ) → is_sent_batch (batch topology before b) ≡ true → batch_in_hand u (batch topology (step ∷ before) b) ≤ batch_in_hand u (batch topology before b)
unfolding batch_in_hand
batch_step topology before (Close s first trigger) u b h =
    either (closing before (view_of topology before) s first.0) (b == closed before + 1) refl (batch_closed topology before b (sent_exists (batch topology before b) h))
  where
    either : (numbers : List ℕ) (t : Bool) → (b == closed before + 1) ≡ t → b ≤ closed before → batch_in_hand u (new_batch t numbers s (batch topology before b)) ≤ batch_in_hand u (batch topology before b)
    either numbers true e below = absurd (let is : b ≡ closed before + 1 = eqb-true b _ e in omega arith)
    either numbers false e below = omega arith
batch_step topology before (Dispatch s) u b h = sent_same s _ _ u (batch topology before b) h
batch_step topology before (Take s v k) u b h =
    either (among (next_units topology (view_of topology before) s v k) b) (batch topology before b) h
  where
    either : (t : Bool) (o : Option Batch) → is_sent_batch o ≡ true → batch_in_hand u (if t then option_map (λ x. change_place x (batch_on_legs (leg_taken s) x.place)) o else o) ≤ batch_in_hand u o
    either true o h = hand_mapped u (batch_on_legs (leg_taken s)) (leg_taken s) (λ legs. refl) (taken_weighs s u) o h
    either false o h = omega arith
batch_step topology before (Wrote s bytes (Outcomes outcomes)) u b h =
    hand_mapped u (batch_on_legs (leg_answered s outcomes)) (leg_answered s outcomes) (λ legs. refl) (answered_weighs s outcomes u) (batch topology before b) h
batch_step topology before (Kill s why) u b h = hand_mapped u _ _ (λ legs. refl) (lost_weighs _ _ u) (batch topology before b) h
batch_step topology before Halt u b h = hand_mapped u _ _ (λ legs. refl) (lost_weighs _ _ u) (batch topology before b) h
batch_step topology before _ u b h = omega arith

-- no step puts more of what was sent in hand
pub weight_after : (topology : Topology) (before : History) (step : Step) (u : SubNo) (d : SubNo × ℕ) → EntryFits topology before u.consumer d → weight topology (step ∷ before) u d ≤ weight topology before u d
unfolding batch_in_hand message_in_hand
weight_after topology before step u d fits = either (same_sub d.0 u) refl
  where
    by_kind : d.0 ≡ u → (b : Bool) → is_batcher (spec_of topology u.producer) ≡ b → as_number (if b then leg_waits_in u (batch topology (step ∷ before) d.1) else in_inbox_by u (place topology (step ∷ before) d.1)) + as_number (if b then leg_works_in u (batch topology (step ∷ before) d.1) else runs_in u.consumer (place topology (step ∷ before) d.1)) ≤ as_number (if b then leg_waits_in u (batch topology before d.1) else in_inbox_by u (place topology before d.1)) + as_number (if b then leg_works_in u (batch topology before d.1) else runs_in u.consumer (place topology before d.1))
    by_kind is true e = batch_step topology before step u d.1 (fits.batched (ap (λ x. is_batcher (spec_of topology x.producer)) is ∙ e))
    by_kind is false e =
        message_move topology before step u _ _ (move_by topology before step d.1)
        (subst (λ x. MessageFits topology u.consumer x (place topology before d.1)) is (fits.message (ap (λ x. is_batcher (spec_of topology x.producer)) is ∙ e)))

    either : (b : Bool) → same_sub d.0 u ≡ b → (if b then in_hand topology (step ∷ before) u d.1 else 0) ≤ (if b then in_hand topology before u d.1 else 0)
    either true same = by_kind (same_sub-true d.0 u same) (is_batcher (spec_of topology u.producer)) refl
    either false other = omega arith
