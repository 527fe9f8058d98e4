-- A step acknowledges no message but those that it may.
use Rattle.std.proofs.Common.{◌≡◌, ℕ, List, [], ◌∷◌, ◌++◌, ◌+◌, length, Bool, true, false, refl, ap, ◌∙◌, Some, None, Option, subst, inl, inr}
use Rattle.std.specs.Prelude.{◌⊎◌, if◌then◌else◌, not, ◌==◌, ◌&&◌, ◌||◌, option_map, option_to_list, is_some, unwrap_or, position}
use Rattle.std.specs.List.{flat_map}
use Rattle.std.proofs.lemmas.Bool.{eqb-true, eq-eqb}
use Rattle.pipe_types.specs.declared.numbers.StageNo.{StageNo}
use Rattle.pipe_types.specs.declared.numbers.SubNo.{SubNo}
use Rattle.pipe_types.specs.declared.numbers.BatchNo.{BatchNo}
use Rattle.pipe_types.specs.declared.topology.Topology.{Topology}
use Rattle.pipe_types.specs.declared.message.Place.{Place}
use Rattle.pipe_types.specs.declared.message.Place.TheVariants.{Waiting, Inbox, Running, Gathered, InBatch, Acked, Lost}
use Rattle.pipe_types.specs.declared.message.Outcome.{Outcome}
use Rattle.pipe_types.specs.declared.message.BatchEnd.TheVariants.{Outcomes, Crashed as CrashedEnd}
use Rattle.pipe_types.specs.declared.message.Reply.{Reply}
use Rattle.pipe_types.specs.declared.message.Why.{Why}
use Rattle.pipe_types.specs.declared.room.Sent.{Sent as SentUnit}
use Rattle.pipe_types.specs.declared.step.Step.{Step}
use Rattle.pipe_types.specs.declared.step.Step.TheVariants.{Accept, Dispatch, Take, Done, Gather, Close, Wrote, Child, ChildEnd, Kill, Late, Halt}
use Rattle.pipe_types.specs.declared.step.LateAnswer.TheVariants.{Records}
use Rattle.pipe_types.specs.Numbers.{same_stage, batch_no}
use Rattle.pipe_types.specs.Stages.{spec_of}
use Rattle.pipe_model.specs.History.{History, accepted, closed, incarnation}
use Rattle.pipe_model.specs.Posts.{in_slot, crashes}
use Rattle.pipe_model.specs.Lives.{KillSet, kill_set, reason_in, death}
use Rattle.pipe_model.specs.Content.{has_crash, is_among_next}
use Rattle.pipe_model.specs.Batches.{Batch, BatchPlace, AtBatcher, Sent, Dropped, Leg, LegPlace, InInbox, AtWork, Answered, LegLost, is_settled, lost_leg, failed_leg, settled_as, place_by_batch, on_legs, leg_lost, batch_killed, dropped_in}
use Rattle.pipe_model.specs.Flow.{place, batch, view_of, among, chunk_by, numbers_in, alone, deliveries, lost_over, dispatched, waiting_after, subs_of, done, answered, reply_to, has_batchers_in, child_ended, child_place, is_number, runs_again, by_batch, place_in_batch, change_place, killed, lost_with, taken, gathered, put_in_batch, accepted_to, late_place, next_units, closing}
use Rattle.pipe_model.specs.Work.{taken_units}
use Rattle.pipe_model.specs.Legal.{is_legal}
use Rattle.pipe_model.specs.Standing.{in_progress, going}
use Rattle.pipe_model.specs.Acknowledgements.{is_acked}
use Rattle.pipe_laws.proofs.Tests.{and_right, clash}
use Rattle.pipe_laws.proofs.Progress.{in_batch_going}
use Rattle.queue_laws.proofs.Batched.{going_in}
use Rattle.queue_laws.proofs.Writes.{wrote_others}
use Rattle.stage_laws.proofs.Settling.{in_numbers}
use Rattle.settle_laws.specs.Settled.{is_newly, touched, messages_in}

-- acknowledged now, and not before
abbrev Newly : Option Place → Option Place → Type 0
Newly p q = (not (is_acked p) && is_acked q) ≡ true

-- what stays is not newly acknowledged
same : {A : Type 0} (p : Option Place) → Newly p p → A
same p h = by (is_acked p) h
  where
    by : {A : Type 0} (b : Bool) → (not b && b) ≡ true → A
    by true e = cc
    by false e = cc

-- nor what stands elsewhere than acknowledged
other : {A : Type 0} (p q : Option Place) → is_acked q ≡ false → Newly p q → A
other p q e h = clash (is_acked q) (and_right (not (is_acked p)) (is_acked q) h) e

-- Lists of lists

or_right : (x y : Bool) → y ≡ true → (x || y) ≡ true
or_right true y g = refl
or_right false y g = g

among_right : (xs ys : List ℕ) (n : ℕ) → among ys n ≡ true → among (xs ++ ys) n ≡ true
among_right [] ys n h = h
among_right (x ∷ xs) ys n h = or_right (x == n) (among (xs ++ ys) n) (among_right xs ys n h)

among_left : (xs ys : List ℕ) (n : ℕ) → among xs n ≡ true → among (xs ++ ys) n ≡ true
among_left [] ys n h = cc
among_left (x ∷ xs) ys n h = by (x == n) h (among_left xs ys n)
  where
    by : (b : Bool) → (b || among xs n) ≡ true → (among xs n ≡ true → among (xs ++ ys) n ≡ true) → (b || among (xs ++ ys) n) ≡ true
    by true k rest = refl
    by false k rest = rest k

-- a message of one of the batches is among those of all
pub among_messages : (f : ℕ → List ℕ) (bs : List ℕ) (b n : ℕ) → among bs b ≡ true → among (f b) n ≡ true → among (flat_map f bs) n ≡ true
among_messages f [] b n there h = cc
among_messages f (x ∷ bs) b n there h = by (x == b) refl there (λ k. among_messages f bs b n k h)
  where
    by : (c : Bool) → (x == b) ≡ c → (c || among bs b) ≡ true → (among bs b ≡ true → among (flat_map f bs) n ≡ true) → among (f x ++ flat_map f bs) n ≡ true
    by true e k rest = among_left (f x) (flat_map f bs) n (ap (λ y. among (f y) n) (eqb-true x b e) ∙ h)
    by false e k rest = among_right (f x) (flat_map f bs) n (rest k)

-- what is among two lists is among one of them
split : (xs ys : List ℕ) (n : ℕ) → among (xs ++ ys) n ≡ true → (among xs n ≡ true) ⊎ (among ys n ≡ true)
split [] ys n h = inr h
split (x ∷ xs) ys n h = by (x == n) h (split xs ys n)
  where
    by : (b : Bool) → (b || among (xs ++ ys) n) ≡ true → (among (xs ++ ys) n ≡ true → (among xs n ≡ true) ⊎ (among ys n ≡ true)) → ((b || among xs n) ≡ true) ⊎ (among ys n ≡ true)
    by true k rest = inl refl
    by false k rest = rest k

-- and each of all is of one
pub of_one : (f : ℕ → List ℕ) (bs : List ℕ) (n : ℕ) → among (flat_map f bs) n ≡ true → (b : ℕ) × (among bs b ≡ true) × (among (f b) n ≡ true)
of_one f [] n h = cc
of_one f (x ∷ bs) n h = by (split (f x) (flat_map f bs) n h) (of_one f bs n)
  where
    by : (among (f x) n ≡ true) ⊎ (among (flat_map f bs) n ≡ true) → (among (flat_map f bs) n ≡ true → (b : ℕ) × (among bs b ≡ true) × (among (f b) n ≡ true)) → (b : ℕ) × (among (x ∷ bs) b ≡ true) × (among (f b) n ≡ true)
    by (inl own) rest = (x, ap (λ c. c || among bs x) (eq-eqb x x refl), own)
    by (inr later) rest = let r = rest later in (r.0, or_right (x == r.0) (among bs r.0) r.1, r.2)

-- Chunks

replied : (chunk : List ℕ) (replies : List Reply) (n : ℕ) → is_some (reply_to chunk replies n) ≡ true → among chunk n ≡ true
replied [] replies n h = cc
replied (m ∷ chunk) [] n h = cc
replied (m ∷ chunk) (r ∷ replies) n h = by (m == n) h (replied chunk replies n)
  where
    by : (b : Bool) → is_some (if b then Some r else reply_to chunk replies n) ≡ true → (is_some (reply_to chunk replies n) ≡ true → among chunk n ≡ true) → (b || among chunk n) ≡ true
    by true k rest = refl
    by false k rest = rest k

answered_some : (b : Bool) (s : StageNo) (o : Option Reply) → is_acked (Some (answered b s o)) ≡ true → is_some o ≡ true
answered_some b s (Some r) h = refl
answered_some true s None h = cc
answered_some false s None h = cc

done_within : (b : Bool) (chunk : List ℕ) (replies : List Reply) (s : StageNo) (n : ℕ) (p : Option Place) → Newly p (option_map (done b chunk replies s n) p) → among chunk n ≡ true
done_within b chunk replies s n None h = cc
done_within b chunk replies s n (Some (Waiting t)) h = cc
done_within b chunk replies s n (Some (Inbox u)) h = cc
done_within b chunk replies s n (Some (Gathered t)) h = cc
done_within b chunk replies s n (Some (InBatch d)) h = cc
done_within b chunk replies s n (Some (Acked o)) h = cc
done_within b chunk replies s n (Some (Lost l)) h = cc
done_within b chunk replies s n (Some (Running t)) h = by (same_stage s t) h
  where
    by : (c : Bool) → is_acked (Some (if c then answered b s (reply_to chunk replies n) else Running t)) ≡ true → among chunk n ≡ true
    by true k = replied chunk replies n (answered_some b s (reply_to chunk replies n) k)
    by false k = cc

-- Children

child_within : (again : Bool) (ended : Option ℕ) (s : StageNo) (i : ℕ) (reply : Reply) (n : ℕ) (p : Option Place) → Newly p (option_map (child_ended again ended s i reply n) p) → among (option_to_list ended) n ≡ true
child_within again ended s i reply n None h = cc
child_within again ended s i reply n (Some (Waiting t)) h = cc
child_within again ended s i reply n (Some (Inbox u)) h = cc
child_within again ended s i reply n (Some (Gathered t)) h = cc
child_within again ended s i reply n (Some (InBatch d)) h = cc
child_within again ended s i reply n (Some (Acked o)) h = cc
child_within again ended s i reply n (Some (Lost l)) h = cc
child_within again ended s i reply n (Some (Running t)) h = by ended (same_stage s t) h
  where
    by : (o : Option ℕ) (c : Bool) → is_acked (Some (if c && is_number o n then child_place again s i reply else Running t)) ≡ true → among (option_to_list o) n ≡ true
    by None true k = cc
    by None false k = cc
    by (Some m) false k = cc
    by (Some m) true k = own (m == n) k
      where
        own : (d : Bool) → is_acked (Some (if d then child_place again s i reply else Running t)) ≡ true → (d || false) ≡ true
        own true g = refl
        own false g = cc

-- Batches

-- the messages of a batch in progress stand in it
goes_on : {A : Type 0} (d : BatchNo) (n : ℕ) (o : Option Batch) → in_progress o ≡ true → Newly (Some (InBatch d)) (Some (place_in_batch d.0 o n)) → A
goes_on d n None going_on h = cc
goes_on d n (Some x) going_on h =
    other (Some (InBatch d)) (Some (place_by_batch d.0 x.place (unwrap_or (position (λ m. m == n) x.numbers) 0)))
    (ap (λ p. is_acked (Some p)) (going_in d.0 x.place (unwrap_or (position (λ m. m == n) x.numbers) 0) going_on)) h

-- of a dispatch
sent_within : (topology : Topology) (before : History) (units : List SentUnit) (over lone : List ℕ) (s : StageNo) (n : ℕ) (p : Option Place) → place topology before n ≡ p
    → Newly p (option_map (dispatched units over lone s n) p) → among (messages_in topology before lone) n ≡ true
sent_within topology before units over lone s n None e h = cc
sent_within topology before units over lone s n (Some (Inbox u)) e h = cc
sent_within topology before units over lone s n (Some (Running t)) e h = cc
sent_within topology before units over lone s n (Some (Gathered t)) e h = cc
sent_within topology before units over lone s n (Some (Acked o)) e h = cc
sent_within topology before units over lone s n (Some (Lost l)) e h = cc
sent_within topology before units over lone s n (Some (Waiting t)) e h = by (same_stage s t) h
  where
    none : (subs : List SubNo) (is_over : Bool) → is_acked (Some (waiting_after subs is_over s)) ≡ false
    none (u ∷ subs) is_over = refl
    none [] true = refl
    none [] false = refl

    by : (b : Bool) → is_acked (Some (if b then waiting_after (subs_of units n) (among over n) s else Waiting t)) ≡ true → among (messages_in topology before lone) n ≡ true
    by true k = clash (is_acked (Some (waiting_after (subs_of units n) (among over n) s))) k (none (subs_of units n) (among over n))
    by false k = cc
sent_within topology before units over lone s n (Some (InBatch d)) e h = by (among lone d.0) refl h
  where
    by : (b : Bool) → among lone d.0 ≡ b → is_acked (Some (if b then place_by_batch d.0 (Sent []) 0 else InBatch d)) ≡ true → among (messages_in topology before lone) n ≡ true
    by true there k = among_messages (λ b. numbers_in (batch topology before b)) lone d.0 n there (in_numbers topology before n d e)
    by false there k = cc

-- of a write
wrote_within : (topology : Topology) (before : History) (s : StageNo) (bytes : ℕ) (outcomes : List Outcome) (n : ℕ) (p : Option Place) → is_legal topology (Wrote s bytes (Outcomes outcomes) ∷ before) ≡ true → place topology before n ≡ p
    → Newly p (option_map (by_batch (batch topology (Wrote s bytes (Outcomes outcomes) ∷ before)) n) p) → among (messages_in topology before (taken_units topology before s)) n ≡ true
wrote_within topology before s bytes outcomes n None legal e h = cc
wrote_within topology before s bytes outcomes n (Some (Waiting t)) legal e h = cc
wrote_within topology before s bytes outcomes n (Some (Inbox u)) legal e h = cc
wrote_within topology before s bytes outcomes n (Some (Running t)) legal e h = cc
wrote_within topology before s bytes outcomes n (Some (Gathered t)) legal e h = cc
wrote_within topology before s bytes outcomes n (Some (Acked o)) legal e h = cc
wrote_within topology before s bytes outcomes n (Some (Lost l)) legal e h = cc
wrote_within topology before s bytes outcomes n (Some (InBatch d)) legal e h = by (among (taken_units topology before s) d.0) refl
  where
    by : (b : Bool) → among (taken_units topology before s) d.0 ≡ b → among (messages_in topology before (taken_units topology before s)) n ≡ true
    by true there = among_messages (λ b. numbers_in (batch topology before b)) (taken_units topology before s) d.0 n there (in_numbers topology before n d e)
    by false there =
        goes_on d n (batch topology before d.0) (in_batch_going topology before n d e)
        (subst (λ o. Newly (Some (InBatch d)) (Some (place_in_batch d.0 o n))) (wrote_others topology before s bytes outcomes d.0 legal there) h)

-- of a write that crashed
crashed_none : {A : Type 0} (topology : Topology) (before : History) (n : ℕ) (p : Option Place) → place topology before n ≡ p → Newly p (option_map (by_batch (batch topology before) n) p) → A
crashed_none topology before n None e h = cc
crashed_none topology before n (Some (Waiting t)) e h = cc
crashed_none topology before n (Some (Inbox u)) e h = cc
crashed_none topology before n (Some (Running t)) e h = cc
crashed_none topology before n (Some (Gathered t)) e h = cc
crashed_none topology before n (Some (Acked o)) e h = cc
crashed_none topology before n (Some (Lost l)) e h = cc
crashed_none topology before n (Some (InBatch d)) e h = goes_on d n (batch topology before d.0) (in_batch_going topology before n d e) h

-- Kills

-- a batch whose last open leg is lost is lost
lost_last : (reason : SubNo → Option Why) (inc : SubNo → ℕ) (legs : List Leg) (f : Option Place) → is_settled legs ≡ false → is_settled (on_legs (λ u. leg_lost (reason u) (inc u) u) legs) ≡ true
    → is_acked (Some (settled_as (lost_leg (on_legs (λ u. leg_lost (reason u) (inc u) u) legs)) f)) ≡ false
lost_last reason inc [] f open_yet settled = cc
lost_last reason inc (leg ∷ legs) f open_yet settled = by leg.place (reason leg.sub) open_yet settled (lost_last reason inc legs f)
  where
    by : (p : LegPlace) (r : Option Why) → is_settled (record { sub = leg.sub; place = p } ∷ legs) ≡ false
        → is_settled (record { sub = leg.sub; place = leg_lost r (inc leg.sub) leg.sub p } ∷ on_legs (λ u. leg_lost (reason u) (inc u) u) legs) ≡ true
        → (is_settled legs ≡ false → is_settled (on_legs (λ u. leg_lost (reason u) (inc u) u) legs) ≡ true → is_acked (Some (settled_as (lost_leg (on_legs (λ u. leg_lost (reason u) (inc u) u) legs)) f)) ≡ false)
        → is_acked (Some (settled_as (lost_leg (record { sub = leg.sub; place = leg_lost r (inc leg.sub) leg.sub p } ∷ on_legs (λ u. leg_lost (reason u) (inc u) u) legs)) f)) ≡ false
    by InInbox (Some why) a b rest = refl
    by InInbox None a b rest = cc
    by AtWork (Some why) a b rest = refl
    by AtWork None a b rest = cc
    by (Answered o) (Some why) a b rest = rest a b
    by (Answered o) None a b rest = rest a b
    by (LegLost l) (Some why) a b rest = refl
    by (LegLost l) None a b rest = refl

killed_batch : {A : Type 0} (set : KillSet) (inc : StageNo → ℕ) (d : BatchNo) (n : ℕ) (o : Option Batch) → in_progress o ≡ true
    → Newly (Some (InBatch d)) (Some (place_in_batch d.0 (option_map (λ x. change_place x (batch_killed set inc x.place)) o) n)) → A
killed_batch set inc d n None going_on h = cc
killed_batch set inc d n (Some x) going_on h = by x.place going_on h
  where
    by : {A : Type 0} (p : BatchPlace) → going p ≡ true → is_acked (Some (place_by_batch d.0 (batch_killed set inc p) (unwrap_or (position (λ m. m == n) x.numbers) 0))) ≡ true → A
    by (AtBatcher s) g k = waits (reason_in set s) k
      where
        waits : {A : Type 0} (r : Option Why) → is_acked (Some (place_by_batch d.0 (dropped_in s (inc s) r) (unwrap_or (position (λ m. m == n) x.numbers) 0))) ≡ true → A
        waits (Some why) t = cc
        waits None t = cc
    by (Dropped l) g k = cc
    by (Sent legs) g k = legs_by (is_settled (on_legs (λ u. leg_lost (reason_in set u.consumer) (inc u.consumer) u) legs)) refl k
      where
        open_yet : is_settled legs ≡ false
        open_yet = not_true_of (is_settled legs) g
          where
            not_true_of : (b : Bool) → not b ≡ true → b ≡ false
            not_true_of true t = cc
            not_true_of false t = refl

        legs_by : {A : Type 0} (b : Bool) → is_settled (on_legs (λ u. leg_lost (reason_in set u.consumer) (inc u.consumer) u) legs) ≡ b
            → is_acked (Some (if b then settled_as (lost_leg (on_legs (λ u. leg_lost (reason_in set u.consumer) (inc u.consumer) u) legs)) (failed_leg (on_legs (λ u. leg_lost (reason_in set u.consumer) (inc u.consumer) u) legs) (unwrap_or (position (λ m. m == n) x.numbers) 0)) else InBatch (batch_no d.0))) ≡ true → A
        legs_by true e t = clash (is_acked (Some (settled_as (lost_leg (on_legs (λ u. leg_lost (reason_in set u.consumer) (inc u.consumer) u) legs)) (failed_leg (on_legs (λ u. leg_lost (reason_in set u.consumer) (inc u.consumer) u) legs) (unwrap_or (position (λ m. m == n) x.numbers) 0))))) t (lost_last (λ u. reason_in set u.consumer) (λ u. inc u.consumer) legs (failed_leg (on_legs (λ u. leg_lost (reason_in set u.consumer) (inc u.consumer) u) legs) (unwrap_or (position (λ m. m == n) x.numbers) 0)) open_yet e)
        legs_by false e t = cc

killed_none : {A : Type 0} (topology : Topology) (before : History) (set : KillSet) (inc : StageNo → ℕ) (n : ℕ) (p : Option Place) → place topology before n ≡ p
    → Newly p (option_map (λ q. by_batch (λ b. option_map (λ x. change_place x (batch_killed set inc x.place)) (batch topology before b)) n (killed set inc q)) p) → A
killed_none topology before set inc n None e h = cc
killed_none topology before set inc n (Some (Acked o)) e h = cc
killed_none topology before set inc n (Some (Lost l)) e h = cc
killed_none topology before set inc n (Some (InBatch d)) e h = killed_batch set inc d n (batch topology before d.0) (in_batch_going topology before n d e) h
killed_none topology before set inc n (Some (Waiting t)) e h = by (reason_in set t) h
  where
    by : {A : Type 0} (r : Option Why) → is_acked (Some (by_batch (λ b. option_map (λ x. change_place x (batch_killed set inc x.place)) (batch topology before b)) n (lost_with (inc t) t r (Waiting t)))) ≡ true → A
    by (Some why) k = cc
    by None k = cc
killed_none topology before set inc n (Some (Inbox u)) e h = by (reason_in set u.consumer) h
  where
    by : {A : Type 0} (r : Option Why) → is_acked (Some (by_batch (λ b. option_map (λ x. change_place x (batch_killed set inc x.place)) (batch topology before b)) n (lost_with (inc u.consumer) u.consumer r (Inbox u)))) ≡ true → A
    by (Some why) k = cc
    by None k = cc
killed_none topology before set inc n (Some (Running t)) e h = by (reason_in set t) h
  where
    by : {A : Type 0} (r : Option Why) → is_acked (Some (by_batch (λ b. option_map (λ x. change_place x (batch_killed set inc x.place)) (batch topology before b)) n (lost_with (inc t) t r (Running t)))) ≡ true → A
    by (Some why) k = cc
    by None k = cc
killed_none topology before set inc n (Some (Gathered t)) e h = by (reason_in set t) h
  where
    by : {A : Type 0} (r : Option Why) → is_acked (Some (by_batch (λ b. option_map (λ x. change_place x (batch_killed set inc x.place)) (batch topology before b)) n (lost_with (inc t) t r (Gathered t)))) ≡ true → A
    by (Some why) k = cc
    by None k = cc

-- Other steps

open_either : (b : Bool) (p q : Place) → is_acked (Some p) ≡ false → is_acked (Some q) ≡ false → is_acked (Some (if b then p else q)) ≡ false
open_either true p q x y = x
open_either false p q x y = y

taken_none : {A : Type 0} (chunk : List ℕ) (s : StageNo) (n : ℕ) (p : Option Place) → Newly p (option_map (taken chunk s n) p) → A
taken_none chunk s n None h = cc
taken_none chunk s n (Some (Inbox u)) h = clash (is_acked (Some (if same_stage s u.consumer && among chunk n then Running s else Inbox u))) h (open_either (same_stage s u.consumer && among chunk n) (Running s) (Inbox u) refl refl)
taken_none chunk s n (Some (Waiting t)) h = cc
taken_none chunk s n (Some (Running t)) h = cc
taken_none chunk s n (Some (Gathered t)) h = cc
taken_none chunk s n (Some (InBatch b)) h = cc
taken_none chunk s n (Some (Acked o)) h = cc
taken_none chunk s n (Some (Lost l)) h = cc

gathered_none : {A : Type 0} (s : StageNo) (m n : ℕ) (p : Option Place) → Newly p (option_map (gathered s m n) p) → A
gathered_none s m n None h = cc
gathered_none s m n (Some (Inbox u)) h = clash (is_acked (Some (if same_stage s u.consumer && m == n then Gathered s else Inbox u))) h (open_either (same_stage s u.consumer && m == n) (Gathered s) (Inbox u) refl refl)
gathered_none s m n (Some (Waiting t)) h = cc
gathered_none s m n (Some (Running t)) h = cc
gathered_none s m n (Some (Gathered t)) h = cc
gathered_none s m n (Some (InBatch b)) h = cc
gathered_none s m n (Some (Acked o)) h = cc
gathered_none s m n (Some (Lost l)) h = cc

closed_none : {A : Type 0} (numbers : List ℕ) (s : StageNo) (b n : ℕ) (p : Option Place) → Newly p (option_map (put_in_batch numbers s b n) p) → A
closed_none numbers s b n None h = cc
closed_none numbers s b n (Some (Gathered t)) h = clash (is_acked (Some (if same_stage s t && among numbers n then InBatch (batch_no b) else Gathered t))) h (open_either (same_stage s t && among numbers n) (InBatch (batch_no b)) (Gathered t) refl refl)
closed_none numbers s b n (Some (Waiting t)) h = cc
closed_none numbers s b n (Some (Inbox u)) h = cc
closed_none numbers s b n (Some (Running t)) h = cc
closed_none numbers s b n (Some (InBatch k)) h = cc
closed_none numbers s b n (Some (Acked o)) h = cc
closed_none numbers s b n (Some (Lost l)) h = cc

accepted_none : {A : Type 0} (from count : ℕ) (q : Place) (n : ℕ) (p : Option Place) → is_acked (Some q) ≡ false → Newly p (accepted_to from count q n p) → A
accepted_none from count q n (Some p) e h = same (Some p) h
accepted_none from count q n None e h = by (is_among_next from count n) h
  where
    by : {A : Type 0} (b : Bool) → is_acked (if b then Some q else None) ≡ true → A
    by true k = clash (is_acked (Some q)) k e
    by false k = cc

late_open : (s : StageNo) (i : ℕ) (r : Option Why) → is_acked (Some (late_place s i r)) ≡ false
late_open s i (Some why) = refl
late_open s i None = refl

-- The law

pub within_touched : (topology : Topology) (before : History) (step : Step) (n : ℕ) → is_legal topology (step ∷ before) ≡ true → is_newly topology before step n ≡ true → among (touched topology before step) n ≡ true
within_touched topology before (Done s replies) n legal h = by (has_crash replies) h
  where
    by : (b : Bool) → (not (is_acked (place topology before n)) && is_acked (if b then place topology before n else option_map (done (has_batchers_in (spec_of topology s)) (chunk_by (view_of topology before) s) replies s n) (place topology before n))) ≡ true
        → among (chunk_by (view_of topology before) s) n ≡ true
    by true k = same (place topology before n) k
    by false k = done_within (has_batchers_in (spec_of topology s)) (chunk_by (view_of topology before) s) replies s n (place topology before n) k
within_touched topology before (Wrote s bytes (Outcomes outcomes)) n legal h = wrote_within topology before s bytes outcomes n (place topology before n) legal refl h
within_touched topology before (Wrote s bytes CrashedEnd) n legal h = crashed_none topology before n (place topology before n) refl h
within_touched topology before (ChildEnd s slot reply) n legal h = child_within (runs_again (spec_of topology s) (crashes before n)) (in_slot before s slot) s (incarnation before s) reply n (place topology before n) h
within_touched topology before (Dispatch s) n legal h =
    sent_within topology before (deliveries topology before s) (lost_over topology before (view_of topology before) s) (alone topology before s) s n (place topology before n) refl h
within_touched topology before (Kill s why) n legal h = killed_none topology before (kill_set topology before (Kill s why)) (incarnation before) n (place topology before n) refl h
within_touched topology before Halt n legal h = killed_none topology before (kill_set topology before Halt) (incarnation before) n (place topology before n) refl h
within_touched topology before (Accept s records) n legal h = accepted_none (accepted before) (length records) (Waiting s) n (place topology before n) refl h
within_touched topology before (Late s slot i (Records records)) n legal h =
    accepted_none (accepted before) (length records) (late_place s i (death topology before s)) n (place topology before n) (late_open s i (death topology before s)) h
within_touched topology before (Take s u k) n legal h = taken_none (next_units topology (view_of topology before) s u k) s n (place topology before n) h
within_touched topology before (Gather s m) n legal h = gathered_none s m.0 n (place topology before n) h
within_touched topology before (Close s first trigger) n legal h = closed_none (closing before (view_of topology before) s first.0) s (closed before + 1) n (place topology before n) h
within_touched topology before (Child s m slot) n legal h = taken_none (m.0 ∷ []) s n (place topology before n) h
within_touched topology before step n legal h = same (place topology before n) h
