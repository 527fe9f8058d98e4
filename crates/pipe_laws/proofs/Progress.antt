-- A message in a batch: the batch waits in a live batcher, or has an open leg in a live stage.
use Rattle.std.proofs.Common.{◌≡◌, ℕ, ◌+◌, List, [], ◌∷◌, Bool, true, false, refl, ap, sym, ◌∙◌, Some, None, Option}
use Rattle.std.specs.Prelude.{if◌then◌else◌, not, ◌==◌, ◌&&◌, ◌||◌, option_map, is_some}
use Rattle.std.proofs.lemmas.Bool.{eq-eqb}
use Rattle.pipe_types.specs.declared.numbers.SubNo.{SubNo}
use Rattle.pipe_types.specs.declared.numbers.StageNo.{StageNo}
use Rattle.pipe_types.specs.declared.numbers.BatchNo.{BatchNo}
use Rattle.pipe_types.specs.declared.numbers.MsgNo.{MsgNo}
use Rattle.pipe_types.specs.declared.message.Trigger.{Trigger}
use Rattle.pipe_types.specs.declared.topology.Topology.{Topology}
use Rattle.pipe_types.specs.declared.message.Place.{Place}
use Rattle.pipe_types.specs.declared.message.Place.TheVariants.{Inbox, Gathered, InBatch, Acked, Lost}
use Rattle.pipe_types.specs.declared.message.Outcome.{Outcome}
use Rattle.pipe_types.specs.declared.message.Why.{Why}
use Rattle.pipe_types.specs.declared.message.BatchEnd.TheVariants.{Outcomes}
use Rattle.pipe_types.specs.declared.step.Step.{Step}
use Rattle.pipe_types.specs.declared.step.Step.TheVariants.{Dispatch, Take, Close, Wrote, Kill, Restart, Halt}
use Rattle.pipe_types.specs.Numbers.{same_stage, batch_no}
use Rattle.pipe_model.specs.History.{History, closed, incarnation}
use Rattle.pipe_model.specs.Batches.{Batch, BatchPlace, AtBatcher, Sent, Dropped, Leg, LegPlace, InInbox, AtWork, Answered, LegLost, is_leg_open, is_settled, settled_as, lost_leg, failed_leg, place_by_batch, on_legs, leg_taken, leg_answered, leg_lost, new_legs, batch_sent, batch_on_legs, batch_killed, dropped_in}
use Rattle.pipe_model.specs.Lives.{KillSet, reason_in, is_live, death, kill_set}
use Rattle.pipe_types.specs.declared.message.Outcome.TheVariants.{Successful}
use Rattle.pipe_model.specs.Flow.{place, batch, view_of, among, alone, deliveries, dispatched, lost_over, sends_by, subs_of, by_batch, place_in_batch, killed, change_place, new_batch, next_units, closing, put_in_batch}
use Rattle.pipe_model.specs.Legal.{is_legal, allows}
use Rattle.pipe_model.specs.Moves.{is_final}
use Rattle.pipe_model.specs.Claims.{HasOnePlaceEach, has_live_leg, batch_in_progress, is_held_at}
use Rattle.pipe_laws.proofs.Tests.{clash, and_left, and_right, both}
use Rattle.pipe_laws.proofs.Lists.{Each}
use Rattle.pipe_laws.proofs.Places.{Move, stays, comes, comes_lost, sent_on, runs, waits, is_gathered, joins, ends, move_by, IsOn, dispatch_on, closes, settled_final}
use Rattle.pipe_laws.proofs.Allowed.{legal_before, legal_step, unowed}
use Rattle.pipe_laws.proofs.Held.{held, stands_live, alive_unkilled, restart_live}
use Rattle.pipe_laws.proofs.Accepted.{accepted_only, accepted_placed}
use Rattle.pipe_model.specs.Standing.{going, in_progress}

-- what is open stands in a live stage
abbrev pub legs_live : (StageNo → Bool) → List Leg → Bool
legs_live live [] = true
legs_live live (leg ∷ legs) = (not (is_leg_open leg.place) || live leg.sub.consumer) && legs_live live legs

abbrev pub goes_live : (StageNo → Bool) → BatchPlace → Bool
goes_live live (AtBatcher s) = live s
goes_live live (Sent legs) = legs_live live legs
goes_live live (Dropped loss) = true

abbrev pub batch_live : (StageNo → Bool) → Option Batch → Bool
batch_live live None = true
batch_live live (Some x) = goes_live live x.place

-- Progress

settled_taken : (s : StageNo) (legs : List Leg) → is_settled (on_legs (leg_taken s) legs) ≡ is_settled legs
settled_taken s [] = refl
settled_taken s (leg ∷ legs) = λ i. open_same leg.sub leg.place i && settled_taken s legs i
  where
    open_same : (u : SubNo) (p : LegPlace) → not (is_leg_open (leg_taken s u p)) ≡ not (is_leg_open p)
    open_same u InInbox = by_stage (same_stage s u.consumer)
      where
        by_stage : (b : Bool) → not (is_leg_open (if b then AtWork else InInbox)) ≡ false
        by_stage true = refl
        by_stage false = refl
    open_same u _ = refl

going_taken : (s : StageNo) (p : BatchPlace) → going p ≡ true → going (batch_on_legs (leg_taken s) p) ≡ true
going_taken s (AtBatcher t) h = refl
going_taken s (Sent legs) h = ap not (settled_taken s legs) ∙ h
going_taken s (Dropped l) h = h

-- a batch that a dispatch does not serve without a leg goes on
going_sent : (s : StageNo) (is_alone : Bool) (subs : List SubNo) → is_alone ≡ false → (p : BatchPlace) → going p ≡ true → going (batch_sent s is_alone subs p) ≡ true
going_sent s false [] no_one (AtBatcher t) h = refl
going_sent s false [] no_one (Sent legs) h = h
going_sent s false [] no_one (Dropped l) h = h
going_sent s true subs no_one p h = cc
going_sent s false (u ∷ subs) no_one (AtBatcher t) h = by_stage (same_stage s t)
  where
    by_stage : (b : Bool) → going (if b then Sent (new_legs (u ∷ subs)) else AtBatcher t) ≡ true
    by_stage true = refl
    by_stage false = refl
going_sent s false (u ∷ subs) no_one (Sent legs) h = h
going_sent s false (u ∷ subs) no_one (Dropped l) h = h

progress_mapped : (change : BatchPlace → BatchPlace) → ((p : BatchPlace) → going p ≡ true → going (change p) ≡ true) → (o : Option Batch) → in_progress o ≡ true → in_progress (option_map (λ x. change_place x (change x.place)) o) ≡ true
progress_mapped change keeps None h = h
progress_mapped change keeps (Some x) h = keeps x.place h

pub progress_exists : (o : Option Batch) → in_progress o ≡ true → is_some o ≡ true
progress_exists None h = h
progress_exists (Some x) h = refl

-- a place in a batch comes from the same place, where the step closes none
pub in_batch_before : (topology : Topology) (before : History) (step : Step) (b : BatchNo) (p q : Option Place) → Move topology before step p q → closes step ≡ false → q ≡ Some (InBatch b) → p ≡ Some (InBatch b)
in_batch_before topology before step b p q stays c e = e
in_batch_before topology before step b p q (comes s) c e = cc
in_batch_before topology before step b p q (comes_lost l) c e = cc
in_batch_before topology before step b p q (sent_on s u on) c e = cc
in_batch_before topology before step b p q (runs u from) c e = cc
in_batch_before topology before step b p q (waits s) c e = cc
in_batch_before topology before step b p q (is_gathered u) c e = cc
in_batch_before topology before step b p q (joins s m from) c e = clash (closes step) from c
in_batch_before topology before step b p q (ends x y final) c e = not_final y final e
  where
    not_final : (y : Place) → is_final (Some y) ≡ true → Some y ≡ Some (InBatch b) → Some x ≡ Some (InBatch b)
    not_final (Acked o) f e = cc
    not_final _ f e = cc

-- where the batch leaves its message in it, it goes on
left_going : (b m : BatchNo) (p : BatchPlace) (i : ℕ) → Some (place_by_batch b.0 p i) ≡ Some (InBatch m) → going p ≡ true
left_going b m (AtBatcher s) i e = refl
left_going b m (Sent legs) i e = either (is_settled legs) e
  where
    final_not : (y : Place) → is_final (Some y) ≡ true → Some y ≡ Some (InBatch m) → false ≡ true
    final_not (Acked o) f e = cc
    final_not _ f e = cc

    either : (a : Bool) → Some (if a then settled_as (lost_leg legs) (failed_leg legs i) else InBatch (batch_no b.0)) ≡ Some (InBatch m) → not a ≡ true
    either true e = final_not _ (settled_final legs i) e
    either false e = refl
left_going b m (Dropped l) i e = cc

left_in_progress : (b m : BatchNo) (n : ℕ) (o : Option Batch) → is_some o ≡ true → Some (place_in_batch b.0 o n) ≡ Some (InBatch m) → in_progress o ≡ true
left_in_progress b m n None h e = cc
left_in_progress b m n (Some x) h e = left_going b m x.place _ e

map_exists : {A B : Type 0} (f : A → B) (o : Option A) → is_some o ≡ true → is_some (option_map f o) ≡ true
map_exists f None h = h
map_exists f (Some x) h = refl

-- a message that joins the batch that a step closes
joined : (topology : Topology) (before : History) (numbers : List ℕ) (s : StageNo) (n : ℕ) (b : BatchNo) (p : Option Place) → (p ≡ Some (InBatch b) → in_progress (batch topology before b.0) ≡ true) → option_map (put_in_batch numbers s (closed before + 1) n) p ≡ Some (InBatch b) → in_progress (new_batch (b.0 == closed before + 1) numbers s (batch topology before b.0)) ≡ true
joined topology before numbers s n b p old e = by_place p old e
  where
    made : (t : Bool) → t ≡ true → in_progress (new_batch t numbers s (batch topology before b.0)) ≡ true
    made true h = refl
    made false h = cc

    kept : (t : Bool) → (b.0 == closed before + 1) ≡ t → in_progress (batch topology before b.0) ≡ true → in_progress (new_batch t numbers s (batch topology before b.0)) ≡ true
    kept true h k = refl
    kept false h k = k

    by_place : (p : Option Place) → (p ≡ Some (InBatch b) → in_progress (batch topology before b.0) ≡ true) → option_map (put_in_batch numbers s (closed before + 1) n) p ≡ Some (InBatch b) → in_progress (new_batch (b.0 == closed before + 1) numbers s (batch topology before b.0)) ≡ true
    by_place (Some (InBatch m)) old e = kept (b.0 == closed before + 1) refl (old e)
    by_place (Some (Gathered t)) old e = either (same_stage s t && among numbers n) e
      where
        either : (a : Bool) → Some (if a then InBatch (batch_no (closed before + 1)) else Gathered t) ≡ Some (InBatch b) → in_progress (new_batch (b.0 == closed before + 1) numbers s (batch topology before b.0)) ≡ true
        either true e =
            let is : batch_no (closed before + 1) ≡ b = cc in
            made (b.0 == closed before + 1) (eq-eqb b.0 (closed before + 1) (sym (ap (λ x. x.0) is)))
        either false e = cc
    by_place _ old e = cc

-- a message that a dispatch leaves in its batch is of none that is served without a leg
left_in_batch : (is_alone : Bool) (b : BatchNo) → Some (if is_alone then Acked Successful else InBatch b) ≡ Some (InBatch b) → is_alone ≡ false
left_in_batch true b e = cc
left_in_batch false b e = refl

-- the batch of a message in it is in progress
pub in_batch_going : (topology : Topology) (before : History) (n : ℕ) (b : BatchNo) → place topology before n ≡ Some (InBatch b) → in_progress (batch topology before b.0) ≡ true
in_batch_going topology [] n b e = cc
in_batch_going topology (Close s first trigger ∷ before) n b e =
    joined topology before (closing before (view_of topology before) s first.0) s n b (place topology before n) (in_batch_going topology before n b) e
in_batch_going topology (Dispatch s ∷ before) n b e =
    let was : place topology before n ≡ Some (InBatch b) = in_batch_before topology before (Dispatch s) b _ _ (move_by topology before (Dispatch s) n) refl e in
    let kept : among (alone topology before s) b.0 ≡ false =
    left_in_batch (among (alone topology before s) b.0) b
    (ap (option_map (dispatched (deliveries topology before s) (lost_over topology before (view_of topology before) s) (alone topology before s) s n)) (sym was) ∙ e) in
    progress_mapped (batch_sent s (among (alone topology before s) b.0) (subs_of (deliveries topology before s) b.0)) (going_sent s _ _ kept) (batch topology before b.0)
    (in_batch_going topology before n b was)
in_batch_going topology (Take s u k ∷ before) n b e =
    either (among (next_units topology (view_of topology before) s u k) b.0) (batch topology before b.0)
    (in_batch_going topology before n b (in_batch_before topology before (Take s u k) b _ _ (move_by topology before (Take s u k) n) refl e))
  where
    either : (t : Bool) (o : Option Batch) → in_progress o ≡ true → in_progress (if t then option_map (λ x. change_place x (batch_on_legs (leg_taken s) x.place)) o else o) ≡ true
    either true o h = progress_mapped (batch_on_legs (leg_taken s)) (going_taken s) o h
    either false o h = h
in_batch_going topology (Wrote s bytes (Outcomes outcomes) ∷ before) n b e =
    let was : place topology before n ≡ Some (InBatch b) = in_batch_before topology before (Wrote s bytes (Outcomes outcomes)) b _ _ (move_by topology before (Wrote s bytes (Outcomes outcomes)) n) refl e in
    left_in_progress b b n (batch topology (Wrote s bytes (Outcomes outcomes) ∷ before) b.0)
    (map_exists _ (batch topology before b.0) (progress_exists (batch topology before b.0) (in_batch_going topology before n b was)))
    (ap (option_map (by_batch (batch topology (Wrote s bytes (Outcomes outcomes) ∷ before)) n)) (sym was) ∙ e)
in_batch_going topology (Kill s why ∷ before) n b e =
    let was : place topology before n ≡ Some (InBatch b) = in_batch_before topology before (Kill s why) b _ _ (move_by topology before (Kill s why) n) refl e in
    left_in_progress b b n (batch topology (Kill s why ∷ before) b.0)
    (map_exists _ (batch topology before b.0) (progress_exists (batch topology before b.0) (in_batch_going topology before n b was)))
    (ap (option_map (λ p. by_batch (batch topology (Kill s why ∷ before)) n (killed (kill_set topology before (Kill s why)) (incarnation before) p))) (sym was) ∙ e)
in_batch_going topology (Halt ∷ before) n b e =
    let was : place topology before n ≡ Some (InBatch b) = in_batch_before topology before Halt b _ _ (move_by topology before Halt n) refl e in
    left_in_progress b b n (batch topology (Halt ∷ before) b.0)
    (map_exists _ (batch topology before b.0) (progress_exists (batch topology before b.0) (in_batch_going topology before n b was)))
    (ap (option_map (λ p. by_batch (batch topology (Halt ∷ before)) n (killed (kill_set topology before Halt) (incarnation before) p))) (sym was) ∙ e)
in_batch_going topology (step ∷ before) n b e = in_batch_going topology before n b (in_batch_before topology before step b _ _ (move_by topology before step n) refl e)

-- Live legs

more_live : (one other : StageNo → Bool) → ((s : StageNo) → one s ≡ true → other s ≡ true) → (o : Option Batch) → batch_live one o ≡ true → batch_live other o ≡ true
more_live one other f None h = refl
more_live one other f (Some x) h = by_place x.place h
  where
    by_leg : (a b c : Bool) → (b ≡ true → c ≡ true) → (a || b) ≡ true → (a || c) ≡ true
    by_leg true b c f h = refl
    by_leg false b c f h = f h

    by_legs : (legs : List Leg) → legs_live one legs ≡ true → legs_live other legs ≡ true
    by_legs [] h = refl
    by_legs (leg ∷ legs) h =
        both (not (is_leg_open leg.place) || other leg.sub.consumer) (legs_live other legs)
        (by_leg (not (is_leg_open leg.place)) (one leg.sub.consumer) (other leg.sub.consumer) (f leg.sub.consumer) (and_left (not (is_leg_open leg.place) || one leg.sub.consumer) _ h))
        (by_legs legs (and_right (not (is_leg_open leg.place) || one leg.sub.consumer) _ h))

    by_place : (p : BatchPlace) → goes_live one p ≡ true → goes_live other p ≡ true
    by_place (AtBatcher s) h = f s h
    by_place (Sent legs) h = by_legs legs h
    by_place (Dropped l) h = refl

live_mapped : (live other : StageNo → Bool) (change : BatchPlace → BatchPlace) → ((p : BatchPlace) → goes_live live p ≡ true → goes_live other (change p) ≡ true) → (o : Option Batch) → batch_live live o ≡ true → batch_live other (option_map (λ x. change_place x (change x.place)) o) ≡ true
live_mapped live other change keeps None h = refl
live_mapped live other change keeps (Some x) h = keeps x.place h

-- a change that opens no leg, and leaves open only those in stages that live afterwards
live_on_legs : (live other : StageNo → Bool) (change : SubNo → LegPlace → LegPlace) → ((u : SubNo) (p : LegPlace) → is_leg_open (change u p) ≡ true → live u.consumer ≡ true → other u.consumer ≡ true) → ((u : SubNo) (p : LegPlace) → is_leg_open (change u p) ≡ true → is_leg_open p ≡ true) → (legs : List Leg) → legs_live live legs ≡ true → legs_live other (on_legs change legs) ≡ true
live_on_legs live other change spares opens [] h = refl
live_on_legs live other change spares opens (leg ∷ legs) h =
    both (not (is_leg_open (change leg.sub leg.place)) || other leg.sub.consumer) (legs_live other (on_legs change legs))
    (by_leg (is_leg_open (change leg.sub leg.place)) refl (and_left (not (is_leg_open leg.place) || live leg.sub.consumer) _ h))
    (live_on_legs live other change spares opens legs (and_right (not (is_leg_open leg.place) || live leg.sub.consumer) _ h))
  where
    open_live : (a b : Bool) → a ≡ true → (not a || b) ≡ true → b ≡ true
    open_live true b e h = h
    open_live false b e h = cc

    by_leg : (a : Bool) → is_leg_open (change leg.sub leg.place) ≡ a → (not (is_leg_open leg.place) || live leg.sub.consumer) ≡ true → (not a || other leg.sub.consumer) ≡ true
    by_leg false e h = refl
    by_leg true e h = spares leg.sub leg.place e (open_live (is_leg_open leg.place) (live leg.sub.consumer) (opens leg.sub leg.place e) h)

pub taken_opens : (s : StageNo) (u : SubNo) (p : LegPlace) → is_leg_open (leg_taken s u p) ≡ true → is_leg_open p ≡ true
taken_opens s u InInbox h = refl
taken_opens s u AtWork h = refl
taken_opens s u (Answered o) h = h
taken_opens s u (LegLost l) h = h

pub answered_opens : (s : StageNo) (outcomes : List Outcome) (u : SubNo) (p : LegPlace) → is_leg_open (leg_answered s outcomes u p) ≡ true → is_leg_open p ≡ true
answered_opens s outcomes u InInbox h = refl
answered_opens s outcomes u AtWork h = refl
answered_opens s outcomes u (Answered o) h = h
answered_opens s outcomes u (LegLost l) h = h

lost_opens : (why : Option Why) (i : ℕ) (u : SubNo) (p : LegPlace) → is_leg_open (leg_lost why i u p) ≡ true → (is_leg_open p ≡ true) × (why ≡ None)
lost_opens None i u p h = (h, refl)
lost_opens (Some why) i u InInbox h = cc
lost_opens (Some why) i u AtWork h = cc
lost_opens (Some why) i u (Answered o) h = cc
lost_opens (Some why) i u (LegLost l) h = cc

live_sent : (topology : Topology) (before : History) (s : StageNo) (is_alone : Bool) (subs : List SubNo) → Each (IsOn topology before s) subs → (p : BatchPlace) → goes_live (is_live topology before) p ≡ true → goes_live (is_live topology before) (batch_sent s is_alone subs p) ≡ true
live_sent topology before s is_alone [] on (AtBatcher t) h = by_stage (is_alone && same_stage s t)
  where
    by_stage : (b : Bool) → goes_live (is_live topology before) (if b then Sent [] else AtBatcher t) ≡ true
    by_stage true = refl
    by_stage false = h
live_sent topology before s is_alone [] on (Sent legs) h = h
live_sent topology before s is_alone [] on (Dropped l) h = h
live_sent topology before s is_alone (u ∷ subs) on (AtBatcher t) h = by_stage (same_stage s t)
  where
    new_live : (subs : List SubNo) → Each (IsOn topology before s) subs → legs_live (is_live topology before) (new_legs subs) ≡ true
    new_live [] on = refl
    new_live (v ∷ subs) on = both (is_live topology before v.consumer) (legs_live (is_live topology before) (new_legs subs)) on.0.live (new_live subs on.1)

    by_stage : (b : Bool) → goes_live (is_live topology before) (if b then Sent (new_legs (u ∷ subs)) else AtBatcher t) ≡ true
    by_stage true = new_live (u ∷ subs) on
    by_stage false = h
live_sent topology before s is_alone (u ∷ subs) on (Sent legs) h = h
live_sent topology before s is_alone (u ∷ subs) on (Dropped l) h = h

live_killed : (live other : StageNo → Bool) (set : KillSet) (incarnation : StageNo → ℕ) → ((s : StageNo) → reason_in set s ≡ None → live s ≡ true → other s ≡ true) → (p : BatchPlace) → goes_live live p ≡ true → goes_live other (batch_killed set incarnation p) ≡ true
live_killed live other set incarnation spares (AtBatcher s) h = either (reason_in set s) refl
  where
    either : (why : Option Why) → reason_in set s ≡ why → goes_live other (dropped_in s (incarnation s) why) ≡ true
    either None e = spares s e h
    either (Some why) e = refl
live_killed live other set incarnation spares (Sent legs) h =
    live_on_legs live other (λ u. leg_lost (reason_in set u.consumer) (incarnation u.consumer) u)
    (λ u p o l. spares u.consumer (lost_opens (reason_in set u.consumer) (incarnation u.consumer) u p o).1 l)
    (λ u p o. (lost_opens (reason_in set u.consumer) (incarnation u.consumer) u p o).0) legs h
live_killed live other set incarnation spares (Dropped l) h = refl

close_live : (topology : Topology) (before : History) (s : StageNo) (first : MsgNo) (trigger : Trigger) → allows topology before (Close s first trigger) ≡ true → is_live topology before s ≡ true
close_live topology before s first trigger h = and_left (is_live topology before s) _ (unowed topology before (Close s first trigger) (λ t. refl) (λ t. refl) h)

-- the open legs of a legal journal's batches, and its waiting batches, stand in live stages
pub batches_live : (topology : Topology) (before : History) (b : ℕ) → is_legal topology before ≡ true → batch_live (is_live topology before) (batch topology before b) ≡ true
batches_live topology [] b h = refl
batches_live topology (Close s first trigger ∷ before) b h =
    either (closing before (view_of topology before) s first.0) (b == closed before + 1) (batches_live topology before b (legal_before topology before (Close s first trigger) h))
  where
    either : (numbers : List ℕ) (t : Bool) → batch_live (is_live topology before) (batch topology before b) ≡ true → batch_live (is_live topology before) (new_batch t numbers s (batch topology before b)) ≡ true
    either numbers true old = close_live topology before s first trigger (legal_step topology before (Close s first trigger) h)
    either numbers false old = old
batches_live topology (Dispatch s ∷ before) b h =
    live_mapped (is_live topology before) (is_live topology before) (batch_sent s (among (alone topology before s) b) (subs_of (sends_by topology before (view_of topology before) s) b)) (live_sent topology before s _ _ (dispatch_on topology before s b)) (batch topology before b)
    (batches_live topology before b (legal_before topology before (Dispatch s) h))
batches_live topology (Take s u k ∷ before) b h =
    either (among (next_units topology (view_of topology before) s u k) b) (batch topology before b) (batches_live topology before b (legal_before topology before (Take s u k) h))
  where
    by_place : (p : BatchPlace) → goes_live (is_live topology before) p ≡ true → goes_live (is_live topology before) (batch_on_legs (leg_taken s) p) ≡ true
    by_place (AtBatcher t) h = h
    by_place (Sent legs) h = live_on_legs (is_live topology before) (is_live topology before) (leg_taken s) (λ u p o l. l) (taken_opens s) legs h
    by_place (Dropped l) h = refl

    either : (t : Bool) (o : Option Batch) → batch_live (is_live topology before) o ≡ true → batch_live (is_live topology before) (if t then option_map (λ x. change_place x (batch_on_legs (leg_taken s) x.place)) o else o) ≡ true
    either true o h = live_mapped (is_live topology before) (is_live topology before) (batch_on_legs (leg_taken s)) by_place o h
    either false o h = h
batches_live topology (Wrote s bytes (Outcomes outcomes) ∷ before) b h =
    live_mapped (is_live topology before) (is_live topology before) (batch_on_legs (leg_answered s outcomes)) by_place (batch topology before b)
    (batches_live topology before b (legal_before topology before (Wrote s bytes (Outcomes outcomes)) h))
  where
    by_place : (p : BatchPlace) → goes_live (is_live topology before) p ≡ true → goes_live (is_live topology before) (batch_on_legs (leg_answered s outcomes) p) ≡ true
    by_place (AtBatcher t) h = h
    by_place (Sent legs) h = live_on_legs (is_live topology before) (is_live topology before) (leg_answered s outcomes) (λ u p o l. l) (answered_opens s outcomes) legs h
    by_place (Dropped l) h = refl
batches_live topology (Kill s why ∷ before) b h =
    live_mapped (is_live topology before) (is_live topology (Kill s why ∷ before)) (batch_killed (kill_set topology before (Kill s why)) (incarnation before))
    (live_killed (is_live topology before) (is_live topology (Kill s why ∷ before)) (kill_set topology before (Kill s why)) (incarnation before)
    (λ t e live. alive_unkilled topology (reason_in (kill_set topology before (Kill s why)) t) false (death topology before t) t e live))
    (batch topology before b) (batches_live topology before b (legal_before topology before (Kill s why) h))
batches_live topology (Halt ∷ before) b h =
    live_mapped (is_live topology before) (is_live topology (Halt ∷ before)) (batch_killed (kill_set topology before Halt) (incarnation before))
    (live_killed (is_live topology before) (is_live topology (Halt ∷ before)) (kill_set topology before Halt) (incarnation before)
    (λ t e live. alive_unkilled topology (reason_in (kill_set topology before Halt) t) false (death topology before t) t e live))
    (batch topology before b) (batches_live topology before b (legal_before topology before Halt h))
batches_live topology (Restart t ∷ before) b h =
    more_live (is_live topology before) (is_live topology (Restart t ∷ before)) (restart_live topology before t) (batch topology before b)
    (batches_live topology before b (legal_before topology before (Restart t) h))
batches_live topology (step ∷ before) b h = batches_live topology before b (legal_before topology before step h)

-- One place each

live_leg : (live : StageNo → Bool) (legs : List Leg) → legs_live live legs ≡ true → not (is_settled legs) ≡ true → has_live_leg live legs ≡ true
live_leg live [] l g = cc
live_leg live (leg ∷ legs) l g =
    either (is_leg_open leg.place) (live leg.sub.consumer) (and_left (not (is_leg_open leg.place) || live leg.sub.consumer) _ l) g (live_leg live legs (and_right (not (is_leg_open leg.place) || live leg.sub.consumer) _ l))
  where
    either : (a b : Bool) → (not a || b) ≡ true → not (not a && is_settled legs) ≡ true → (not (is_settled legs) ≡ true → has_live_leg live legs ≡ true) → ((a && b) || has_live_leg live legs) ≡ true
    either true true l g rest = refl
    either true false l g rest = cc
    either false b l g rest = rest g

progress_live : (live : StageNo → Bool) (o : Option Batch) → batch_live live o ≡ true → in_progress o ≡ true → batch_in_progress live o ≡ true
progress_live live None l g = g
progress_live live (Some x) l g = by_place x.numbers x.place l g
  where
    by_place : (numbers : List ℕ) (p : BatchPlace) → goes_live live p ≡ true → going p ≡ true → batch_in_progress live (Some (record { numbers = numbers; place = p })) ≡ true
    by_place numbers (AtBatcher s) l g = l
    by_place numbers (Sent legs) l g = live_leg live legs l g
    by_place numbers (Dropped loss) l g = g

pub held_at : (topology : Topology) (before : History) (n : ℕ) → is_legal topology before ≡ true → is_some (place topology before n) ≡ true → is_held_at (is_live topology before) (batch topology before) (place topology before n) ≡ true
held_at topology before n h some = by_place (place topology before n) refl some (held topology before n h)
  where
    by_place : (p : Option Place) → place topology before n ≡ p → is_some p ≡ true → stands_live (is_live topology before) p ≡ true → is_held_at (is_live topology before) (batch topology before) p ≡ true
    by_place None e some live = some
    by_place (Some (Acked o)) e some live = refl
    by_place (Some (Lost l)) e some live = refl
    by_place (Some (InBatch b)) e some live =
        progress_live (is_live topology before) (batch topology before b.0) (batches_live topology before b.0 h) (in_batch_going topology before n b e)
    by_place _ e some live = live

-- each accepted message has one place, which holds it
pub one_place_each : (topology : Topology) (before : History) → is_legal topology before ≡ true → HasOnePlaceEach topology before
one_place_each topology before h =
    record {
      accepted_only = accepted_only topology before;
      held = λ n low high. held_at topology before n h (accepted_placed topology before n low high);
    }
