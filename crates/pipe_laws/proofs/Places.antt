-- How a step may move a message.
use Rattle.std.proofs.Common.{◌≡◌, ℕ, List, [], ◌∷◌, Bool, true, false, refl, sym, subst, Some, None, Option}
use Rattle.std.specs.Prelude.{option_map, if◌then◌else◌, ◌==◌, ◌&&◌, filter}
use Rattle.pipe_types.specs.declared.numbers.SubNo.{SubNo}
use Rattle.pipe_types.specs.declared.numbers.StageNo.{StageNo}
use Rattle.pipe_types.specs.declared.numbers.BatchNo.{BatchNo}
use Rattle.pipe_types.specs.declared.topology.Topology.{Topology}
use Rattle.pipe_types.specs.declared.topology.StageSpec.{StageSpec}
use Rattle.pipe_types.specs.declared.message.Outcome.TheVariants.{Successful}
use Rattle.pipe_types.specs.declared.message.Loss.{Loss}
use Rattle.pipe_types.specs.declared.message.Loss.TheVariants.{Overflow}
use Rattle.pipe_types.specs.declared.message.Why.{Why}
use Rattle.pipe_types.specs.declared.message.Place.{Place}
use Rattle.pipe_types.specs.declared.message.Place.TheVariants.{Waiting, Inbox, Running, Gathered, InBatch, Acked, Lost}
use Rattle.pipe_types.specs.declared.message.Reply.{Reply}
use Rattle.pipe_types.specs.declared.message.Reply.TheVariants.{Pass, Failed as FailedReply, Raised, Crashed}
use Rattle.pipe_types.specs.declared.room.Room.{Room}
use Rattle.pipe_types.specs.declared.room.Sent.{Sent as SentUnit}
use Rattle.pipe_types.specs.declared.step.Step.{Step}
use Rattle.pipe_types.specs.declared.step.Step.TheVariants.{Accept, Dispatch, Take, Done, Gather, Close, Wrote, Child, ChildEnd, Kill, Late, Halt}
use Rattle.pipe_types.specs.declared.step.LateAnswer.TheVariants.{Records}
use Rattle.pipe_types.specs.Dispatchers.{Serving, goes, on_each, sends_from}
use Rattle.pipe_types.specs.Numbers.{same_stage, batch_no}
use Rattle.pipe_types.specs.Stages.{feeds}
use Rattle.pipe_model.specs.History.{History}
use Rattle.pipe_model.specs.Content.{has_crash, is_among_next}
use Rattle.pipe_model.specs.Batches.{Batch, BatchPlace, AtBatcher, Sent, Dropped, Leg, LegPlace, LegLost, is_settled, settled_as, lost_leg, failed_leg, place_by_batch}
use Rattle.pipe_model.specs.Lives.{KillSet, reason_in, is_live, current_sub, live_subs, live_subs_from, death}
use Rattle.pipe_model.specs.Flow.{place, view_of, batch, among, sends_by, rooms_by, waiting_by, subs_of, dispatched, waiting_after, taken, done, answered, reply_to, gathered, put_in_batch, by_batch, place_in_batch, killed, lost_with, child_ended, child_place, accepted_to, late_place, is_number}
use Rattle.pipe_model.specs.Moves.{is_final}
use Rattle.pipe_laws.proofs.Tests.{and_left, and_right, same_stage-true, same_stage-self}
use Rattle.pipe_laws.proofs.Carried.{failed_as}
use Rattle.pipe_laws.proofs.Lists.{Each, each-append, each_weaker, each_filter, each_map, each_always}

-- the subscription is a live one on the stage
pub record IsOn (topology : Topology) (before : History) (s : StageNo) (u : SubNo) : Type 0 where
  pub feeding : feeds topology s u.consumer ≡ true
  pub live : is_live topology before u.consumer ≡ true
  pub current : u ≡ current_sub topology before u.consumer s

live_subs_on_from : (topology : Topology) (before : History) (s : StageNo) (specs : List StageSpec) → Each (IsOn topology before s) (live_subs_from topology before s specs)
live_subs_on_from topology before s [] = tt
live_subs_on_from topology before s (c ∷ specs) =
    either (feeds topology s c.no && is_live topology before c.no) refl (live_subs_on_from topology before s specs)
  where
    either : (b : Bool) → (feeds topology s c.no && is_live topology before c.no) ≡ b → Each (IsOn topology before s) (live_subs_from topology before s specs) → Each (IsOn topology before s) (if b then current_sub topology before c.no s ∷ live_subs_from topology before s specs else live_subs_from topology before s specs)
    either true e rest = (record { feeding = and_left _ _ e; live = and_right (feeds topology s c.no) _ e; current = refl }, rest)
    either false e rest = rest

pub live_subs_on : (topology : Topology) (before : History) (s : StageNo) → Each (IsOn topology before s) (live_subs topology before s)
live_subs_on topology before s = either (is_live topology before s) (live_subs_on_from topology before s topology.stages)
  where
    either : (b : Bool) → Each (IsOn topology before s) (live_subs_from topology before s topology.stages) → Each (IsOn topology before s) (if b then live_subs_from topology before s topology.stages else [])
    either true rest = rest
    either false rest = tt

-- What a dispatch sends goes on subscriptions of rooms, and is some of the units
on_each_rooms : (P : SubNo → Type 0) (Q : ℕ → Type 0) (unit : ℕ) (rooms : List Room) → Q unit → Each (λ r. P r.sub) rooms → Each (λ d. P d.sub × Q d.unit) (on_each unit rooms)
on_each_rooms P Q unit [] q h = tt
on_each_rooms P Q unit (r ∷ rooms) q h = ((h.0, q), on_each_rooms P Q unit rooms q h.1)

pub sends_each : (P : SubNo → Type 0) (Q : ℕ → Type 0) (kind : Serving) (rooms : List Room) (earlier : List ℕ) (units : List (ℕ × ℕ)) → Each (λ r. P r.sub) rooms → Each (λ unit. Q unit.0) units → Each (λ d. P d.sub × Q d.unit) (sends_from kind rooms earlier units)
sends_each P Q kind rooms earlier [] h q = tt
sends_each P Q kind rooms earlier (unit ∷ units) h q =
    each-append (λ d. P d.sub × Q d.unit) (on_each unit.0 (filter (goes kind rooms earlier unit.1) rooms)) (sends_from kind rooms (unit.1 ∷ earlier) units)
    (on_each_rooms P Q unit.0 (filter (goes kind rooms earlier unit.1) rooms) q.0
    (each_weaker (λ r. P r.sub × (goes kind rooms earlier unit.1 r ≡ true)) (λ r. P r.sub) (λ r p. p.0) _ (each_filter (λ r. P r.sub) (goes kind rooms earlier unit.1) rooms h)))
    (sends_each P Q kind rooms (unit.1 ∷ earlier) units h q.1)

-- each unit that a dispatch of the stage sends waits there, and goes on a live subscription on it
pub sends_on : (topology : Topology) (before : History) (s : StageNo) (Q : ℕ → Type 0) → Each Q (waiting_by topology before (view_of topology before) s) → Each (λ d. IsOn topology before s d.sub × Q d.unit) (sends_by topology before (view_of topology before) s)
sends_on topology before s Q waiting =
    sends_each (IsOn topology before s) Q _ (rooms_by topology before (view_of topology before) s) [] _
    (each_map (λ r. IsOn topology before s r.sub) _ (live_subs topology before s) (live_subs_on topology before s))
    (each_map (λ unit. Q unit.0) _ (waiting_by topology before (view_of topology before) s) waiting)

pub subs_of_each : (P : SubNo → Type 0) (units : List SentUnit) (n : ℕ) → Each (λ d. P d.sub) units → Each P (subs_of units n)
subs_of_each P [] n h = tt
subs_of_each P (d ∷ units) n h = either (d.unit == n) (subs_of_each P units n h.1)
  where
    either : (b : Bool) → Each P (subs_of units n) → Each P (if b then d.sub ∷ subs_of units n else subs_of units n)
    either true rest = (h.0, rest)
    either false rest = rest

pub dispatch_on : (topology : Topology) (before : History) (s : StageNo) (n : ℕ) → Each (IsOn topology before s) (subs_of (sends_by topology before (view_of topology before) s) n)
dispatch_on topology before s n =
    subs_of_each (IsOn topology before s) (sends_by topology before (view_of topology before) s) n
    (each_weaker _ (λ d. IsOn topology before s d.sub) (λ d p. p.0) _ (sends_on topology before s (λ m. Unit {0}) (each_always (λ m. Unit {0}) (λ m. tt) _)))

-- the step starts work in the stage
abbrev pub starts : Step → StageNo → Bool
starts (Take s u k) t = same_stage s t
starts (Child s m slot) t = same_stage s t
starts _ t = false

-- the step closes a batch
abbrev pub closes : Step → Bool
closes (Close s first trigger) = true
closes _ = false

-- what one step may do to a message
pub data Move (topology : Topology) (before : History) (step : Step) : Option Place → Option Place → Type 0 where
  stays : {p : Option Place} → Move topology before step p p
  comes : (s : StageNo) → Move topology before step None (Some (Waiting s))
  comes_lost : (loss : Loss) → Move topology before step None (Some (Lost loss))
  sent_on : (s : StageNo) (u : SubNo) → IsOn topology before s u → Move topology before step (Some (Waiting s)) (Some (Inbox u))
  runs : (u : SubNo) → starts step u.consumer ≡ true → Move topology before step (Some (Inbox u)) (Some (Running u.consumer))
  waits : (s : StageNo) → Move topology before step (Some (Running s)) (Some (Waiting s))
  is_gathered : (u : SubNo) → Move topology before step (Some (Inbox u)) (Some (Gathered u.consumer))
  joins : (s : StageNo) (b : BatchNo) → closes step ≡ true → Move topology before step (Some (Gathered s)) (Some (InBatch b))
  ends : (p q : Place) → is_final (Some q) ≡ true → Move topology before step (Some p) (Some q)

-- a settled batch leaves its messages settled
failed_final : (legs : List Leg) (i : ℕ) → is_final (Some (settled_as None (failed_leg legs i))) ≡ true
failed_final = failed_as (λ p. is_final (Some p) ≡ true) refl (λ why. refl)

lost_final : (legs : List Leg) (failed : Option Place) → is_final (Some (settled_as None failed)) ≡ true → is_final (Some (settled_as (lost_leg legs) failed)) ≡ true
lost_final [] failed h = h
lost_final (leg ∷ legs) failed h = by_place leg.sub leg.place (lost_final legs failed h)
  where
    by_place : (u : SubNo) (p : LegPlace) → is_final (Some (settled_as (lost_leg legs) failed)) ≡ true → is_final (Some (settled_as (lost_leg (record { sub = u; place = p } ∷ legs)) failed)) ≡ true
    by_place u (LegLost loss) h = refl
    by_place u _ h = h

pub settled_final : (legs : List Leg) (i : ℕ) → is_final (Some (settled_as (lost_leg legs) (failed_leg legs i))) ≡ true
settled_final legs i = lost_final legs (failed_leg legs i) (failed_final legs i)

module _ (topology : Topology) (before : History) (step : Step) where
  stays_at : (p q : Option Place) → p ≡ q → Move topology before step p q
  stays_at p q e = subst (λ x. Move topology before step p x) e stays

  move_accepted : (from count n : ℕ) (s : StageNo) (old : Option Place) → Move topology before step old (accepted_to from count (Waiting s) n old)
  move_accepted from count n s (Some p) = stays
  move_accepted from count n s None = either (is_among_next from count n)
    where
      either : (b : Bool) → Move topology before step None (if b then Some (Waiting s) else None)
      either true = comes s
      either false = stays

  move_late : (from count n : ℕ) (s : StageNo) (i : ℕ) (why : Option Why) (old : Option Place) → Move topology before step old (accepted_to from count (late_place s i why) n old)
  move_late from count n s i why (Some p) = stays
  move_late from count n s i None None = move_accepted from count n s None
  move_late from count n s i (Some why) None = either (is_among_next from count n)
    where
      either : (b : Bool) → Move topology before step None (if b then Some (late_place s i (Some why)) else None)
      either true = comes_lost _
      either false = stays

  move_dispatched : (units : List SentUnit) (over alone : List ℕ) (s : StageNo) (n : ℕ) → Each (IsOn topology before s) (subs_of units n) → (old : Option Place) → Move topology before step old (option_map (dispatched units over alone s n) old)
  move_dispatched units over alone s n on (Some (Waiting t)) = either (same_stage s t) refl
    where
      lost_or_not : (b : Bool) → Move topology before step (Some (Waiting s)) (Some (if b then Lost (Overflow s) else Waiting s))
      lost_or_not true = ends _ _ refl
      lost_or_not false = stays

      here : (subs : List SubNo) → Each (IsOn topology before s) subs → Move topology before step (Some (Waiting s)) (Some (waiting_after subs (among over n) s))
      here [] on = lost_or_not (among over n)
      here (u ∷ subs) on = sent_on s u on.0

      either : (b : Bool) → same_stage s t ≡ b → Move topology before step (Some (Waiting t)) (Some (if b then waiting_after (subs_of units n) (among over n) s else Waiting t))
      either true e = subst (λ x. Move topology before step (Some (Waiting x)) (Some (waiting_after (subs_of units n) (among over n) s))) (same_stage-true s t e) (here (subs_of units n) on)
      either false e = stays
  move_dispatched units over alone s n on (Some (InBatch b)) = either (among alone b.0)
    where
      either : (a : Bool) → Move topology before step (Some (InBatch b)) (Some (if a then Acked Successful else InBatch b))
      either true = ends _ _ refl
      either false = stays
  move_dispatched units over alone s n on _ = stays

  move_taken : (chunk : List ℕ) (s : StageNo) (n : ℕ) → starts step s ≡ true → (old : Option Place) → Move topology before step old (option_map (taken chunk s n) old)
  move_taken chunk s n from (Some (Inbox u)) = either (same_stage s u.consumer) (among chunk n) refl
    where
      either : (a b : Bool) → same_stage s u.consumer ≡ a → Move topology before step (Some (Inbox u)) (Some (if a && b then Running s else Inbox u))
      either true true e = subst (λ x. Move topology before step (Some (Inbox u)) (Some (Running x))) (sym (same_stage-true s u.consumer e)) (runs u (subst (λ x. starts step x ≡ true) (same_stage-true s u.consumer e) from))
      either true false e = stays
      either false b e = stays
  move_taken chunk s n from _ = stays

  move_answered : (b : Bool) (s : StageNo) (reply : Option Reply) → Move topology before step (Some (Running s)) (Some (answered b s reply))
  move_answered true s (Some (Pass m)) = waits s
  move_answered false s (Some (Pass m)) = ends _ _ refl
  move_answered true s (Some (FailedReply why)) = ends _ _ refl
  move_answered false s (Some (FailedReply why)) = ends _ _ refl
  move_answered true s (Some (Raised why)) = ends _ _ refl
  move_answered false s (Some (Raised why)) = ends _ _ refl
  move_answered true s (Some Crashed) = stays
  move_answered false s (Some Crashed) = stays
  move_answered true s None = stays
  move_answered false s None = stays

  move_done : (b : Bool) (chunk : List ℕ) (replies : List Reply) (s : StageNo) (n : ℕ) (old : Option Place) → Move topology before step old (option_map (done b chunk replies s n) old)
  move_done b chunk replies s n (Some (Running t)) = either (same_stage s t) refl
    where
      either : (a : Bool) → same_stage s t ≡ a → Move topology before step (Some (Running t)) (Some (if a then answered b s (reply_to chunk replies n) else Running t))
      either true e = subst (λ x. Move topology before step (Some (Running x)) (Some (answered b s (reply_to chunk replies n)))) (same_stage-true s t e) (move_answered b s (reply_to chunk replies n))
      either false e = stays
  move_done b chunk replies s n _ = stays

  move_gathered : (s : StageNo) (m n : ℕ) (old : Option Place) → Move topology before step old (option_map (gathered s m n) old)
  move_gathered s m n (Some (Inbox u)) = either (same_stage s u.consumer) (m == n) refl
    where
      either : (a b : Bool) → same_stage s u.consumer ≡ a → Move topology before step (Some (Inbox u)) (Some (if a && b then Gathered s else Inbox u))
      either true true e = subst (λ x. Move topology before step (Some (Inbox u)) (Some (Gathered x))) (sym (same_stage-true s u.consumer e)) (is_gathered u)
      either true false e = stays
      either false b e = stays
  move_gathered s m n _ = stays

  move_joined : (numbers : List ℕ) (s : StageNo) (b n : ℕ) → closes step ≡ true → (old : Option Place) → Move topology before step old (option_map (put_in_batch numbers s b n) old)
  move_joined numbers s b n from (Some (Gathered t)) = either (same_stage s t && among numbers n)
    where
      either : (a : Bool) → Move topology before step (Some (Gathered t)) (Some (if a then InBatch (batch_no b) else Gathered t))
      either true = joins t _ from
      either false = stays
  move_joined numbers s b n from _ = stays

  move_by_place : (b : BatchNo) (i : ℕ) (place : BatchPlace) → Move topology before step (Some (InBatch b)) (Some (place_by_batch b.0 place i))
  move_by_place b i (AtBatcher s) = stays
  move_by_place b i (Dropped loss) = ends _ _ refl
  move_by_place b i (Sent legs) = either (is_settled legs)
    where
      either : (a : Bool) → Move topology before step (Some (InBatch b)) (Some (if a then settled_as (lost_leg legs) (failed_leg legs i) else InBatch (batch_no b.0)))
      either true = ends _ _ (settled_final legs i)
      either false = stays

  move_in_batch : (b : BatchNo) (o : Option Batch) (n : ℕ) → Move topology before step (Some (InBatch b)) (Some (place_in_batch b.0 o n))
  move_in_batch b None n = stays
  move_in_batch b (Some x) n = move_by_place b _ x.place

  move_by_batch : (after : ℕ → Option Batch) (n : ℕ) (old : Option Place) → Move topology before step old (option_map (by_batch after n) old)
  move_by_batch after n (Some (InBatch b)) = move_in_batch b (after b.0) n
  move_by_batch after n _ = stays

  move_lost_with : (after : ℕ → Option Batch) (n i : ℕ) (s : StageNo) (why : Option Why) (p : Place) → Move topology before step (Some p) (Some (by_batch after n p)) → Move topology before step (Some p) (Some (by_batch after n (lost_with i s why p)))
  move_lost_with after n i s None p h = h
  move_lost_with after n i s (Some why) p h = ends _ _ refl

  move_killed : (set : KillSet) (incarnation : StageNo → ℕ) (after : ℕ → Option Batch) (n : ℕ) (old : Option Place) → Move topology before step old (option_map (λ p. by_batch after n (killed set incarnation p)) old)
  move_killed set incarnation after n (Some (Waiting t)) = move_lost_with after n (incarnation t) t (reason_in set t) (Waiting t) stays
  move_killed set incarnation after n (Some (Inbox u)) = move_lost_with after n (incarnation u.consumer) u.consumer (reason_in set u.consumer) (Inbox u) stays
  move_killed set incarnation after n (Some (Running t)) = move_lost_with after n (incarnation t) t (reason_in set t) (Running t) stays
  move_killed set incarnation after n (Some (Gathered t)) = move_lost_with after n (incarnation t) t (reason_in set t) (Gathered t) stays
  move_killed set incarnation after n (Some (InBatch b)) = move_in_batch b (after b.0) n
  move_killed set incarnation after n _ = stays

  move_child_place : (again : Bool) (s : StageNo) (i : ℕ) (reply : Reply) → Move topology before step (Some (Running s)) (Some (child_place again s i reply))
  move_child_place again s i (Pass m) = ends _ _ refl
  move_child_place again s i (FailedReply why) = ends _ _ refl
  move_child_place again s i (Raised why) = ends _ _ refl
  move_child_place true s i Crashed = stays
  move_child_place false s i Crashed = ends _ _ refl

  move_child_ended : (again : Bool) (ended : Option ℕ) (s : StageNo) (i : ℕ) (reply : Reply) (n : ℕ) (old : Option Place) → Move topology before step old (option_map (child_ended again ended s i reply n) old)
  move_child_ended again ended s i reply n (Some (Running t)) = either (same_stage s t) (is_number ended n) refl
    where
      either : (a b : Bool) → same_stage s t ≡ a → Move topology before step (Some (Running t)) (Some (if a && b then child_place again s i reply else Running t))
      either true true e = subst (λ x. Move topology before step (Some (Running x)) (Some (child_place again s i reply))) (same_stage-true s t e) (move_child_place again s i reply)
      either true false e = stays
      either false b e = stays
  move_child_ended again ended s i reply n _ = stays

-- what each step does to a message is one of the moves
pub move_by : (topology : Topology) (before : History) (step : Step) (n : ℕ) → Move topology before step (place topology before n) (place topology (step ∷ before) n)
move_by topology before (Accept s records) n = move_accepted topology before (Accept s records) _ _ n s (place topology before n)
move_by topology before (Late s slot i (Records records)) n = move_late topology before (Late s slot i (Records records)) _ _ n s i (death topology before s) (place topology before n)
move_by topology before (Dispatch s) n = move_dispatched topology before (Dispatch s) _ _ _ s n (dispatch_on topology before s n) (place topology before n)
move_by topology before (Take s u k) n = move_taken topology before (Take s u k) _ s n (same_stage-self s) (place topology before n)
move_by topology before (Done s replies) n = either (has_crash replies) (move_done topology before (Done s replies) _ _ replies s n (place topology before n))
  where
    either : {moved : Option Place} (b : Bool) → Move topology before (Done s replies) (place topology before n) moved → Move topology before (Done s replies) (place topology before n) (if b then place topology before n else moved)
    either true m = stays
    either false m = m
move_by topology before (Gather s m) n = move_gathered topology before (Gather s m) s m.0 n (place topology before n)
move_by topology before (Close s first trigger) n = move_joined topology before (Close s first trigger) _ s _ n refl (place topology before n)
move_by topology before (Wrote s bytes end) n = move_by_batch topology before (Wrote s bytes end) (batch topology (Wrote s bytes end ∷ before)) n (place topology before n)
move_by topology before (Child s m slot) n = move_taken topology before (Child s m slot) (m.0 ∷ []) s n (same_stage-self s) (place topology before n)
move_by topology before (ChildEnd s slot reply) n = move_child_ended topology before (ChildEnd s slot reply) _ _ s _ reply n (place topology before n)
move_by topology before (Kill s why) n = move_killed topology before (Kill s why) _ _ (batch topology (Kill s why ∷ before)) n (place topology before n)
move_by topology before Halt n = move_killed topology before Halt _ _ (batch topology (Halt ∷ before)) n (place topology before n)
move_by topology before _ n = stays
