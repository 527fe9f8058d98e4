-- Where every outcome of a batch is a success, no leg and no batch fails a message.
use Rattle.std.proofs.Common.{◌≡◌, ℕ, zero, suc, ◌+◌, List, [], ◌∷◌, Bool, true, false, refl, Some, None, Option}
use Rattle.std.specs.Prelude.{if◌then◌else◌, ◌==◌, ◌&&◌, option_map, slice_get, position, unwrap_or}
use Rattle.std.specs.List.{list_all}
use Rattle.pipe_types.specs.declared.numbers.SubNo.{SubNo}
use Rattle.pipe_types.specs.declared.numbers.StageNo.{StageNo}
use Rattle.pipe_types.specs.declared.topology.Topology.{Topology}
use Rattle.pipe_types.specs.declared.message.BatchEnd.TheVariants.{Outcomes}
use Rattle.pipe_types.specs.declared.message.Outcome.{Outcome}
use Rattle.pipe_types.specs.declared.message.Outcome.TheVariants.{Successful, Failed}
use Rattle.pipe_types.specs.declared.message.Place.{Place}
use Rattle.pipe_types.specs.declared.message.Place.TheVariants.{InBatch}
use Rattle.pipe_types.specs.declared.message.Why.{Why}
use Rattle.pipe_types.specs.declared.step.Step.{Step}
use Rattle.pipe_types.specs.declared.step.Step.TheVariants.{Dispatch, Take, Close, Wrote, Kill, Halt}
use Rattle.pipe_types.specs.Handlers.{is_successful}
use Rattle.pipe_types.specs.Numbers.{same_stage, batch_no}
use Rattle.pipe_model.specs.History.{History, closed, incarnation}
use Rattle.pipe_model.specs.Lives.{KillSet, kill_set, reason_in}
use Rattle.pipe_model.specs.Batches.{Batch, BatchPlace, AtBatcher, Sent, Dropped, Leg, LegPlace, InInbox, AtWork, Answered, LegLost, is_settled, settled_as, lost_leg, failed_leg, outcome_place, place_by_batch, on_legs, leg_taken, leg_answered, leg_lost, new_legs, batch_sent, batch_on_legs, batch_killed, dropped_in}
use Rattle.pipe_model.specs.Flow.{alone, batch, view_of, among, sends_by, subs_of, place_in_batch, change_place, new_batch, next_units, closing}
use Rattle.pipe_model.specs.Acknowledgements.{is_acked_failed}
use Rattle.pipe_laws.proofs.Carried.{on_legs_clear, sent_clear}
use Rattle.pipe_laws.proofs.Tests.{and_left, and_right, both}
use Rattle.body_laws.specs.Passes.{passes, all_pass}

pub pass_before : (before : History) (step : Step) → all_pass (step ∷ before) ≡ true → all_pass before ≡ true
pass_before before step h = and_left (all_pass before) (passes step) h

pub pass_here : (before : History) (step : Step) → all_pass (step ∷ before) ≡ true → passes step ≡ true
pass_here before step h = and_right (all_pass before) (passes step) h

-- ---- legs

abbrev leg_passes : LegPlace → Bool
leg_passes (Answered outcomes) = list_all is_successful outcomes
leg_passes _ = true

abbrev legs_pass : List Leg → Bool
legs_pass [] = true
legs_pass (leg ∷ legs) = leg_passes leg.place && legs_pass legs

abbrev place_passes : BatchPlace → Bool
place_passes (Sent legs) = legs_pass legs
place_passes _ = true

abbrev pub batch_passes : Option Batch → Bool
batch_passes None = true
batch_passes (Some x) = place_passes x.place

pass_on_legs : (change : SubNo → LegPlace → LegPlace) → ((u : SubNo) (p : LegPlace) → leg_passes p ≡ true → leg_passes (change u p) ≡ true) → (legs : List Leg) → legs_pass legs ≡ true → legs_pass (on_legs change legs) ≡ true
pass_on_legs change keeps [] h = refl
pass_on_legs change keeps (leg ∷ legs) h =
    both (leg_passes (change leg.sub leg.place)) (legs_pass (on_legs change legs)) (keeps leg.sub leg.place (and_left (leg_passes leg.place) (legs_pass legs) h))
    (pass_on_legs change keeps legs (and_right (leg_passes leg.place) (legs_pass legs) h))

taken_passes : (s : StageNo) (u : SubNo) (p : LegPlace) → leg_passes p ≡ true → leg_passes (leg_taken s u p) ≡ true
taken_passes s u InInbox h = by_stage (same_stage s u.consumer)
  where
    by_stage : (b : Bool) → leg_passes (if b then AtWork else InInbox) ≡ true
    by_stage true = refl
    by_stage false = refl
taken_passes s u AtWork h = refl
taken_passes s u (Answered o) h = h
taken_passes s u (LegLost l) h = refl

answered_passes : (s : StageNo) (outcomes : List Outcome) → list_all is_successful outcomes ≡ true → (u : SubNo) (p : LegPlace) → leg_passes p ≡ true → leg_passes (leg_answered s outcomes u p) ≡ true
answered_passes s outcomes good u InInbox h = refl
answered_passes s outcomes good u AtWork h = by_stage (same_stage s u.consumer)
  where
    by_stage : (b : Bool) → leg_passes (if b then Answered outcomes else AtWork) ≡ true
    by_stage true = good
    by_stage false = refl
answered_passes s outcomes good u (Answered o) h = h
answered_passes s outcomes good u (LegLost l) h = refl

lost_passes : (why : Option Why) (i : ℕ) (u : SubNo) (p : LegPlace) → leg_passes p ≡ true → leg_passes (leg_lost why i u p) ≡ true
lost_passes None i u p h = h
lost_passes (Some why) i u InInbox h = refl
lost_passes (Some why) i u AtWork h = refl
lost_passes (Some why) i u (Answered o) h = h
lost_passes (Some why) i u (LegLost l) h = refl

-- ---- batches

new_pass : (subs : List SubNo) → legs_pass (new_legs subs) ≡ true
new_pass [] = refl
new_pass (u ∷ subs) = new_pass subs

killed_passes : (set : KillSet) (incarnation : StageNo → ℕ) (p : BatchPlace) → place_passes p ≡ true → place_passes (batch_killed set incarnation p) ≡ true
killed_passes set incarnation (AtBatcher s) h = by_reason (reason_in set s)
  where
    by_reason : (why : Option Why) → place_passes (dropped_in s (incarnation s) why) ≡ true
    by_reason None = refl
    by_reason (Some why) = refl
killed_passes set incarnation (Sent legs) h =
    pass_on_legs (λ u. leg_lost (reason_in set u.consumer) (incarnation u.consumer) u) (λ u. lost_passes (reason_in set u.consumer) (incarnation u.consumer) u) legs h
killed_passes set incarnation (Dropped l) h = refl

passes_mapped : (change : BatchPlace → BatchPlace) → ((p : BatchPlace) → place_passes p ≡ true → place_passes (change p) ≡ true) → (o : Option Batch) → batch_passes o ≡ true → batch_passes (option_map (λ x. change_place x (change x.place)) o) ≡ true
passes_mapped change keeps None h = refl
passes_mapped change keeps (Some x) h = keeps x.place h

-- no leg of a batch was answered with a failure
pub batches_pass : (topology : Topology) (before : History) (b : ℕ) → all_pass before ≡ true → batch_passes (batch topology before b) ≡ true
batches_pass topology [] b h = refl
batches_pass topology (Close s first trigger ∷ before) b h =
    either (closing before (view_of topology before) s first.0) (b == closed before + 1) (batches_pass topology before b (pass_before before (Close s first trigger) h))
  where
    either : (numbers : List ℕ) (t : Bool) → batch_passes (batch topology before b) ≡ true → batch_passes (new_batch t numbers s (batch topology before b)) ≡ true
    either numbers true old = refl
    either numbers false old = old
batches_pass topology (Dispatch s ∷ before) b h =
    passes_mapped (batch_sent s (among (alone topology before s) b) (subs_of (sends_by topology before (view_of topology before) s) b)) (sent_clear place_passes new_pass s _ _) (batch topology before b) (batches_pass topology before b (pass_before before (Dispatch s) h))
batches_pass topology (Take s u k ∷ before) b h =
    either (among (next_units topology (view_of topology before) s u k) b) (batch topology before b) (batches_pass topology before b (pass_before before (Take s u k) h))
  where
    either : (t : Bool) (o : Option Batch) → batch_passes o ≡ true → batch_passes (if t then option_map (λ x. change_place x (batch_on_legs (leg_taken s) x.place)) o else o) ≡ true
    either true o h = passes_mapped (batch_on_legs (leg_taken s)) (on_legs_clear place_passes (leg_taken s) (pass_on_legs (leg_taken s) (taken_passes s))) o h
    either false o h = h
batches_pass topology (Wrote s bytes (Outcomes outcomes) ∷ before) b h =
    passes_mapped (batch_on_legs (leg_answered s outcomes)) (on_legs_clear place_passes (leg_answered s outcomes) (pass_on_legs (leg_answered s outcomes) (answered_passes s outcomes (pass_here before (Wrote s bytes (Outcomes outcomes)) h)))) (batch topology before b)
    (batches_pass topology before b (pass_before before (Wrote s bytes (Outcomes outcomes)) h))
batches_pass topology (Kill s why ∷ before) b h =
    passes_mapped (batch_killed (kill_set topology before (Kill s why)) (incarnation before)) (killed_passes (kill_set topology before (Kill s why)) (incarnation before)) (batch topology before b)
    (batches_pass topology before b (pass_before before (Kill s why) h))
batches_pass topology (Halt ∷ before) b h =
    passes_mapped (batch_killed (kill_set topology before Halt) (incarnation before)) (killed_passes (kill_set topology before Halt) (incarnation before)) (batch topology before b)
    (batches_pass topology before b (pass_before before Halt h))
batches_pass topology (step ∷ before) b h = batches_pass topology before b (pass_before before step h)

-- ---- what a batch leaves

successful_at : (outcomes : List Outcome) (i : ℕ) → list_all is_successful outcomes ≡ true → outcome_place (slice_get outcomes i) ≡ None
successful_at [] i h = refl
successful_at (Successful ∷ outcomes) zero h = refl
successful_at (Successful ∷ outcomes) (suc i) h = successful_at outcomes i h
successful_at (Failed why ∷ outcomes) i h = let x : false ≡ true = h in cc

no_failed_leg : (legs : List Leg) (i : ℕ) → legs_pass legs ≡ true → failed_leg legs i ≡ None
no_failed_leg [] i h = refl
no_failed_leg (leg ∷ legs) i h = by_place leg.sub leg.place (and_left (leg_passes leg.place) (legs_pass legs) h) (no_failed_leg legs i (and_right (leg_passes leg.place) (legs_pass legs) h))
  where
    by_outcome : (u : SubNo) (outcomes : List Outcome) (o : Option Outcome) → slice_get outcomes i ≡ o → outcome_place o ≡ None → failed_leg legs i ≡ None → failed_leg (record { sub = u; place = Answered outcomes } ∷ legs) i ≡ None
    by_outcome u outcomes (Some Successful) e none rest = rw e rest
    by_outcome u outcomes None e none rest = rw e rest
    by_outcome u outcomes (Some (Failed why)) e none rest = cc

    by_place : (u : SubNo) (p : LegPlace) → leg_passes p ≡ true → failed_leg legs i ≡ None → failed_leg (record { sub = u; place = p } ∷ legs) i ≡ None
    by_place u (Answered outcomes) h rest = by_outcome u outcomes (slice_get outcomes i) refl (successful_at outcomes i h) rest
    by_place u InInbox h rest = rest
    by_place u AtWork h rest = rest
    by_place u (LegLost loss) h rest = rest

lost_is_lost : (legs : List Leg) → is_acked_failed (lost_leg legs) ≡ false
lost_is_lost [] = refl
lost_is_lost (leg ∷ legs) = by_place leg.sub leg.place (lost_is_lost legs)
  where
    by_place : (u : SubNo) (p : LegPlace) → is_acked_failed (lost_leg legs) ≡ false → is_acked_failed (lost_leg (record { sub = u; place = p } ∷ legs)) ≡ false
    by_place u (LegLost loss) rest = refl
    by_place u InInbox rest = rest
    by_place u AtWork rest = rest
    by_place u (Answered outcomes) rest = rest

-- a batch whose legs pass fails no message
pub batch_leaves : (b : ℕ) (o : Option Batch) (n : ℕ) → batch_passes o ≡ true → is_acked_failed (Some (place_in_batch b o n)) ≡ false
batch_leaves b None n h = refl
batch_leaves b (Some x) n h = by_place x.place (unwrap_or (position (λ m. m == n) x.numbers) 0) h
  where
    by_leg : (lost failed : Option Place) → is_acked_failed lost ≡ false → failed ≡ None → is_acked_failed (Some (settled_as lost failed)) ≡ false
    by_leg (Some p) failed l f = l
    by_leg None None l f = refl
    by_leg None (Some p) l f = cc

    by_settled : (legs : List Leg) (i : ℕ) → legs_pass legs ≡ true → (a : Bool) → is_acked_failed (Some (if a then settled_as (lost_leg legs) (failed_leg legs i) else InBatch (batch_no b))) ≡ false
    by_settled legs i h true = by_leg (lost_leg legs) (failed_leg legs i) (lost_is_lost legs) (no_failed_leg legs i h)
    by_settled legs i h false = refl

    by_place : (p : BatchPlace) (i : ℕ) → place_passes p ≡ true → is_acked_failed (Some (place_by_batch b p i)) ≡ false
    by_place (AtBatcher s) i h = refl
    by_place (Sent legs) i h = by_settled legs i h (is_settled legs)
    by_place (Dropped l) i h = refl
