-- A journal that loses nothing has no lost message, and where it is drained acknowledges every message once.
use Rattle.std.proofs.Common.{◌≡◌, ℕ, ◌+◌, List, [], ◌∷◌, Bool, true, false, refl, ap, sym, ◌∙◌, Some, None, Option}
use Rattle.std.specs.Prelude.{if◌then◌else◌, not, ◌==◌, ◌&&◌, ◌||◌, option_map}
use Rattle.pipe_types.specs.declared.numbers.SubNo.{SubNo}
use Rattle.pipe_types.specs.declared.numbers.StageNo.{StageNo}
use Rattle.pipe_types.specs.declared.topology.Topology.{Topology}
use Rattle.pipe_types.specs.declared.message.Outcome.{Outcome}
use Rattle.pipe_types.specs.declared.message.Outcome.TheVariants.{Successful}
use Rattle.pipe_types.specs.declared.message.Place.{Place}
use Rattle.pipe_types.specs.declared.message.Place.TheVariants.{Waiting, Inbox, Running, Gathered, InBatch, Acked, Lost}
use Rattle.pipe_types.specs.declared.message.BatchEnd.TheVariants.{Outcomes}
use Rattle.pipe_types.specs.declared.message.Reply.{Reply}
use Rattle.pipe_types.specs.declared.message.Reply.TheVariants.{Pass, Failed as FailedReply, Raised, Crashed}
use Rattle.pipe_types.specs.declared.room.Sent.{Sent as SentUnit}
use Rattle.pipe_types.specs.declared.step.Step.{Step}
use Rattle.pipe_types.specs.declared.step.Step.TheVariants.{Accept, Dispatch, Take, Done, Gather, Close, Wrote, Child, ChildEnd, Kill, Late, Halt}
use Rattle.pipe_types.specs.declared.step.LateAnswer.TheVariants.{Records}
use Rattle.pipe_types.specs.Numbers.{same_stage, batch_no}
use Rattle.pipe_types.specs.Stages.{spec_of}
use Rattle.pipe_types.specs.Sound.{IsSound}
use Rattle.pipe_model.specs.History.{History, closed}
use Rattle.pipe_model.specs.Posts.{in_slot, crashes}
use Rattle.pipe_model.specs.Content.{has_crash}
use Rattle.pipe_model.specs.Lives.{death, death_after, restarts}
use Rattle.pipe_model.specs.Batches.{Batch, BatchPlace, AtBatcher, Sent, Dropped, Leg, LegPlace, InInbox, AtWork, Answered, LegLost, is_settled, settled_as, lost_leg, failed_leg, place_by_batch, on_legs, leg_taken, leg_answered, new_legs, batch_sent, batch_on_legs}
use Rattle.pipe_model.specs.Flow.{place, batch, view_of, among, alone, is_empty, sends_by, subs_of, lost_over, dispatched, waiting_after, done, answered, reply_to, by_batch, place_in_batch, child_ended, child_place, runs_again, is_number, late_place, change_place, new_batch, next_units, closing}
use Rattle.pipe_model.specs.Ledger.{crashed_reply, crashes_of}
use Rattle.pipe_model.specs.Legal.{is_legal, happened, is_halt}
use Rattle.pipe_model.specs.Moves.{is_final}
use Rattle.pipe_model.specs.Acknowledgements.{is_lossless, loses, acknowledgements}
use Rattle.pipe_model.specs.Claims.{AcknowledgesEverything, times_in_all}
use Rattle.pipe_laws.proofs.Tests.{and_left, and_right, both, not_true}
use Rattle.pipe_laws.proofs.Carried.{failed_as, mapped_clear, accepted_clear, taken_clear, done_clear, gathered_clear, joined_clear, on_legs_clear, sent_clear}
use Rattle.pipe_laws.proofs.Slots.{number_is}
use Rattle.pipe_laws.proofs.Ends.{leaves_nothing}
use Rattle.pipe_laws.proofs.Acknowledged.{acknowledged_once}

abbrev is_lost : Option Place → Bool
is_lost (Some (Lost loss)) = true
is_lost _ = false

lossless_before : (topology : Topology) (before : History) (step : Step) → is_lossless topology (step ∷ before) ≡ true → is_lossless topology before ≡ true
lossless_before topology before step h = and_left (is_lossless topology before) _ h

keeps_all : (topology : Topology) (before : History) (step : Step) → is_lossless topology (step ∷ before) ≡ true → loses topology before step ≡ false
keeps_all topology before step h = not_true (loses topology before step) (and_right (is_lossless topology before) _ h)

-- no stage was killed
no_death : (topology : Topology) (before : History) (s : StageNo) → is_lossless topology before ≡ true → death topology before s ≡ None
no_death topology [] s h = refl
no_death topology (Kill t why ∷ before) s h = let x : true ≡ false = keeps_all topology before (Kill t why) h in cc
no_death topology (Halt ∷ before) s h = let x : true ≡ false = keeps_all topology before Halt h in cc
no_death topology (step ∷ before) s h = ap (death_after None (restarts step s)) (no_death topology before s (lossless_before topology before step h)) ∙ by_restart (restarts step s)
  where
    by_restart : (b : Bool) → death_after None b None ≡ None
    by_restart true = refl
    by_restart false = refl

-- Legs

abbrev is_leg_lost : LegPlace → Bool
is_leg_lost (LegLost loss) = true
is_leg_lost _ = false

abbrev legs_kept : List Leg → Bool
legs_kept [] = true
legs_kept (leg ∷ legs) = not (is_leg_lost leg.place) && legs_kept legs

abbrev place_kept : BatchPlace → Bool
place_kept (AtBatcher s) = true
place_kept (Sent legs) = legs_kept legs
place_kept (Dropped loss) = false

abbrev batch_kept : Option Batch → Bool
batch_kept None = true
batch_kept (Some x) = place_kept x.place

kept_on_legs : (change : SubNo → LegPlace → LegPlace) → ((u : SubNo) (p : LegPlace) → not (is_leg_lost p) ≡ true → not (is_leg_lost (change u p)) ≡ true) → (legs : List Leg) → legs_kept legs ≡ true → legs_kept (on_legs change legs) ≡ true
kept_on_legs change keeps [] h = refl
kept_on_legs change keeps (leg ∷ legs) h =
    both (not (is_leg_lost (change leg.sub leg.place))) (legs_kept (on_legs change legs)) (keeps leg.sub leg.place (and_left (not (is_leg_lost leg.place)) _ h)) (kept_on_legs change keeps legs (and_right (not (is_leg_lost leg.place)) _ h))

taken_keeps : (s : StageNo) (u : SubNo) (p : LegPlace) → not (is_leg_lost p) ≡ true → not (is_leg_lost (leg_taken s u p)) ≡ true
taken_keeps s u InInbox h = by_stage (same_stage s u.consumer)
  where
    by_stage : (b : Bool) → not (is_leg_lost (if b then AtWork else InInbox)) ≡ true
    by_stage true = refl
    by_stage false = refl
taken_keeps s u AtWork h = refl
taken_keeps s u (Answered o) h = refl
taken_keeps s u (LegLost l) h = h

answered_keeps : (s : StageNo) (outcomes : List Outcome) (u : SubNo) (p : LegPlace) → not (is_leg_lost p) ≡ true → not (is_leg_lost (leg_answered s outcomes u p)) ≡ true
answered_keeps s outcomes u InInbox h = refl
answered_keeps s outcomes u AtWork h = by_stage (same_stage s u.consumer)
  where
    by_stage : (b : Bool) → not (is_leg_lost (if b then Answered outcomes else AtWork)) ≡ true
    by_stage true = refl
    by_stage false = refl
answered_keeps s outcomes u (Answered o) h = refl
answered_keeps s outcomes u (LegLost l) h = h

new_kept : (subs : List SubNo) → legs_kept (new_legs subs) ≡ true
new_kept [] = refl
new_kept (u ∷ subs) = new_kept subs

kept_mapped : (change : BatchPlace → BatchPlace) → ((p : BatchPlace) → place_kept p ≡ true → place_kept (change p) ≡ true) → (o : Option Batch) → batch_kept o ≡ true → batch_kept (option_map (λ x. change_place x (change x.place)) o) ≡ true
kept_mapped change keeps None h = refl
kept_mapped change keeps (Some x) h = keeps x.place h

-- no batch lost a leg or was dropped
batches_kept : (topology : Topology) (before : History) (b : ℕ) → is_lossless topology before ≡ true → batch_kept (batch topology before b) ≡ true
batches_kept topology [] b h = refl
batches_kept topology (Kill t why ∷ before) b h = let x : true ≡ false = keeps_all topology before (Kill t why) h in cc
batches_kept topology (Halt ∷ before) b h = let x : true ≡ false = keeps_all topology before Halt h in cc
batches_kept topology (Close s first trigger ∷ before) b h =
    either (closing before (view_of topology before) s first.0) (b == closed before + 1) (batches_kept topology before b (lossless_before topology before (Close s first trigger) h))
  where
    either : (numbers : List ℕ) (t : Bool) → batch_kept (batch topology before b) ≡ true → batch_kept (new_batch t numbers s (batch topology before b)) ≡ true
    either numbers true old = refl
    either numbers false old = old
batches_kept topology (Dispatch s ∷ before) b h =
    kept_mapped (batch_sent s (among (alone topology before s) b) (subs_of (sends_by topology before (view_of topology before) s) b)) (sent_clear place_kept new_kept s _ _) (batch topology before b) (batches_kept topology before b (lossless_before topology before (Dispatch s) h))
batches_kept topology (Take s u k ∷ before) b h =
    either (among (next_units topology (view_of topology before) s u k) b) (batch topology before b) (batches_kept topology before b (lossless_before topology before (Take s u k) h))
  where
    either : (t : Bool) (o : Option Batch) → batch_kept o ≡ true → batch_kept (if t then option_map (λ x. change_place x (batch_on_legs (leg_taken s) x.place)) o else o) ≡ true
    either true o h = kept_mapped (batch_on_legs (leg_taken s)) (on_legs_clear place_kept (leg_taken s) (kept_on_legs (leg_taken s) (taken_keeps s))) o h
    either false o h = h
batches_kept topology (Wrote s bytes (Outcomes outcomes) ∷ before) b h =
    kept_mapped (batch_on_legs (leg_answered s outcomes)) (on_legs_clear place_kept (leg_answered s outcomes) (kept_on_legs (leg_answered s outcomes) (answered_keeps s outcomes))) (batch topology before b) (batches_kept topology before b (lossless_before topology before (Wrote s bytes (Outcomes outcomes)) h))
batches_kept topology (step ∷ before) b h = batches_kept topology before b (lossless_before topology before step h)

-- Places

no_lost_leg : (legs : List Leg) → legs_kept legs ≡ true → lost_leg legs ≡ None
no_lost_leg [] h = refl
no_lost_leg (leg ∷ legs) h = by_place leg.sub leg.place (and_left (not (is_leg_lost leg.place)) _ h) (no_lost_leg legs (and_right (not (is_leg_lost leg.place)) _ h))
  where
    by_place : (u : SubNo) (p : LegPlace) → not (is_leg_lost p) ≡ true → lost_leg legs ≡ None → lost_leg (record { sub = u; place = p } ∷ legs) ≡ None
    by_place u (LegLost l) h rest = cc
    by_place u _ h rest = rest

failed_kept : (legs : List Leg) (i : ℕ) → is_lost (Some (settled_as None (failed_leg legs i))) ≡ false
failed_kept = failed_as (λ p. is_lost (Some p) ≡ false) refl (λ why. refl)

batch_leaves : (b : ℕ) (o : Option Batch) (n : ℕ) → batch_kept o ≡ true → is_lost (Some (place_in_batch b o n)) ≡ false
batch_leaves b None n h = refl
batch_leaves b (Some x) n h = by_place x.place _ h
  where
    by_settled : (legs : List Leg) (i : ℕ) → legs_kept legs ≡ true → (a : Bool) → is_lost (Some (if a then settled_as (lost_leg legs) (failed_leg legs i) else InBatch (batch_no b))) ≡ false
    by_settled legs i h true = ap (λ l. is_lost (Some (settled_as l (failed_leg legs i)))) (no_lost_leg legs h) ∙ failed_kept legs i
    by_settled legs i h false = refl

    by_place : (p : BatchPlace) (i : ℕ) → place_kept p ≡ true → is_lost (Some (place_by_batch b p i)) ≡ false
    by_place (AtBatcher s) i h = refl
    by_place (Sent legs) i h = by_settled legs i h (is_settled legs)
    by_place (Dropped l) i h = cc

dispatched_kept : (units : List SentUnit) (over alone : List ℕ) (s : StageNo) (n : ℕ) → is_empty over ≡ true → (p : Place) → is_lost (Some p) ≡ false → is_lost (Some (dispatched units over alone s n p)) ≡ false
dispatched_kept units [] alone s n empty (Waiting t) h = by_stage (same_stage s t) (subs_of units n)
  where
    by_stage : (b : Bool) (subs : List SubNo) → is_lost (Some (if b then waiting_after subs false s else Waiting t)) ≡ false
    by_stage true [] = refl
    by_stage true (u ∷ subs) = refl
    by_stage false subs = refl
dispatched_kept units (m ∷ over) alone s n empty p h = cc
dispatched_kept units [] alone s n empty (Inbox u) h = refl
dispatched_kept units [] alone s n empty (Running t) h = refl
dispatched_kept units [] alone s n empty (Gathered t) h = refl
dispatched_kept units [] alone s n empty (InBatch b) h = either (among alone b.0)
  where
    either : (a : Bool) → is_lost (Some (if a then Acked Successful else InBatch b)) ≡ false
    either true = refl
    either false = refl
dispatched_kept units [] alone s n empty (Acked o) h = refl
dispatched_kept units [] alone s n empty (Lost l) h = h

answered_kept : (b : Bool) (s : StageNo) (reply : Option Reply) → is_lost (Some (answered b s reply)) ≡ false
answered_kept true s (Some (Pass m)) = refl
answered_kept false s (Some (Pass m)) = refl
answered_kept true s (Some (FailedReply why)) = refl
answered_kept false s (Some (FailedReply why)) = refl
answered_kept true s (Some (Raised why)) = refl
answered_kept false s (Some (Raised why)) = refl
answered_kept true s (Some Crashed) = refl
answered_kept false s (Some Crashed) = refl
answered_kept true s None = refl
answered_kept false s None = refl

done_kept : (b : Bool) (chunk : List ℕ) (replies : List Reply) (s : StageNo) (n : ℕ) (p : Place) → is_lost (Some p) ≡ false → is_lost (Some (done b chunk replies s n p)) ≡ false
done_kept b chunk replies s n = done_clear is_lost b chunk replies s n (answered_kept b s (reply_to chunk replies n))

by_batch_kept : (after : ℕ → Option Batch) (n : ℕ) → ((b : ℕ) → batch_kept (after b) ≡ true) → (p : Place) → is_lost (Some p) ≡ false → is_lost (Some (by_batch after n p)) ≡ false
by_batch_kept after n kept (InBatch b) h = batch_leaves b.0 (after b.0) n (kept b.0)
by_batch_kept after n kept (Lost l) h = h
by_batch_kept after n kept _ h = refl

child_kept : (again : Bool) (s : StageNo) (i : ℕ) (reply : Reply) → (crashed_reply reply && not again) ≡ false → is_lost (Some (child_place again s i reply)) ≡ false
child_kept again s i (Pass m) h = refl
child_kept again s i (FailedReply why) h = refl
child_kept again s i (Raised why) h = refl
child_kept true s i Crashed h = refl
child_kept false s i Crashed h = cc

ended_kept : (again : Bool) (ended : Option ℕ) (s : StageNo) (i : ℕ) (reply : Reply) (n : ℕ) → (is_number ended n ≡ true → (crashed_reply reply && not again) ≡ false) → (p : Place) → is_lost (Some p) ≡ false → is_lost (Some (child_ended again ended s i reply n p)) ≡ false
ended_kept again ended s i reply n keeps (Running t) h = either (same_stage s t) (is_number ended n) keeps
  where
    either : (a b : Bool) → (b ≡ true → (crashed_reply reply && not again) ≡ false) → is_lost (Some (if a && b then child_place again s i reply else Running t)) ≡ false
    either true true k = child_kept again s i reply (k refl)
    either true false k = refl
    either false b k = refl
ended_kept again ended s i reply n keeps (Lost l) h = h
ended_kept again ended s i reply n keeps _ h = refl

-- a journal that loses nothing has no lost message
pub none_lost : (topology : Topology) (before : History) (n : ℕ) → is_lossless topology before ≡ true → is_lost (place topology before n) ≡ false
none_lost topology [] n h = refl
none_lost topology (Kill t why ∷ before) n h = let x : true ≡ false = keeps_all topology before (Kill t why) h in cc
none_lost topology (Halt ∷ before) n h = let x : true ≡ false = keeps_all topology before Halt h in cc
none_lost topology (Accept s records ∷ before) n h = accepted_clear is_lost _ _ n (Waiting s) (place topology before n) refl (none_lost topology before n (lossless_before topology before (Accept s records) h))
none_lost topology (Late s slot i (Records records) ∷ before) n h =
    accepted_clear is_lost _ _ n (late_place s i (death topology before s)) (place topology before n) (ap (λ w. is_lost (Some (late_place s i w))) (no_death topology before s (lossless_before topology before (Late s slot i (Records records)) h)))
    (none_lost topology before n (lossless_before topology before (Late s slot i (Records records)) h))
none_lost topology (Dispatch s ∷ before) n h =
    mapped_clear is_lost _ (dispatched_kept _ (lost_over topology before (view_of topology before) s) _ s n (not_not (is_empty (lost_over topology before (view_of topology before) s)) (keeps_all topology before (Dispatch s) h))) (place topology before n) (none_lost topology before n (lossless_before topology before (Dispatch s) h))
  where
    not_not : (b : Bool) → not b ≡ false → b ≡ true
    not_not true e = refl
    not_not false e = cc
none_lost topology (Take s u k ∷ before) n h = mapped_clear is_lost _ (taken_clear is_lost _ s n refl) (place topology before n) (none_lost topology before n (lossless_before topology before (Take s u k) h))
none_lost topology (Done s replies ∷ before) n h = either (has_crash replies) _ (done_kept _ _ replies s n) (none_lost topology before n (lossless_before topology before (Done s replies) h))
  where
    either : (b : Bool) (f : Place → Place) → ((p : Place) → is_lost (Some p) ≡ false → is_lost (Some (f p)) ≡ false) → is_lost (place topology before n) ≡ false → is_lost (if b then place topology before n else option_map f (place topology before n)) ≡ false
    either true f keeps old = old
    either false f keeps old = mapped_clear is_lost f keeps (place topology before n) old
none_lost topology (Gather s m ∷ before) n h = mapped_clear is_lost _ (gathered_clear is_lost s m.0 n refl) (place topology before n) (none_lost topology before n (lossless_before topology before (Gather s m) h))
none_lost topology (Close s first trigger ∷ before) n h = mapped_clear is_lost _ (joined_clear is_lost _ s _ n refl) (place topology before n) (none_lost topology before n (lossless_before topology before (Close s first trigger) h))
none_lost topology (Wrote s bytes end ∷ before) n h =
    mapped_clear is_lost (by_batch (batch topology (Wrote s bytes end ∷ before)) n) (by_batch_kept (batch topology (Wrote s bytes end ∷ before)) n (λ b. batches_kept topology (Wrote s bytes end ∷ before) b h)) (place topology before n)
    (none_lost topology before n (lossless_before topology before (Wrote s bytes end) h))
none_lost topology (Child s m slot ∷ before) n h = mapped_clear is_lost _ (taken_clear is_lost (m.0 ∷ []) s n refl) (place topology before n) (none_lost topology before n (lossless_before topology before (Child s m slot) h))
none_lost topology (ChildEnd s slot reply ∷ before) n h =
    mapped_clear is_lost _
    (ended_kept (runs_again (spec_of topology s) (crashes before n)) (in_slot before s slot) s _ reply n
    (λ mine. ap (λ o. crashed_reply reply && not (runs_again (spec_of topology s) (crashes_of before o))) (sym (number_is (in_slot before s slot) n mine)) ∙ keeps_all topology before (ChildEnd s slot reply) h))
    (place topology before n) (none_lost topology before n (lossless_before topology before (ChildEnd s slot reply) h))
none_lost topology (step ∷ before) n h = none_lost topology before n (lossless_before topology before step h)

-- where a drained journal loses nothing, every accepted message is acknowledged exactly once
pub acknowledges_everything : (topology : Topology) (before : History) → IsSound topology → is_legal topology before ≡ true → AcknowledgesEverything topology before
acknowledges_everything topology before sound h drained lossless n low high =
    by_place (place topology before n) refl (leaves_nothing topology before h (ap (λ b. b || happened is_halt before) drained) n low high) (none_lost topology before n lossless)
  where
    by_place : (p : Option Place) → place topology before n ≡ p → is_final p ≡ true → is_lost p ≡ false → times_in_all (acknowledgements topology before) n ≡ 1
    by_place (Some (Acked o)) e f l = (acknowledged_once topology before n sound h).once o e
    by_place _ e f l = cc
