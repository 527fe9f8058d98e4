-- A batch's messages after a leg was answered.
use Rattle.std.proofs.Common.{◌≡◌, ℕ, ◌+◌, List, [], ◌∷◌, Bool, true, false, refl, ap, sym, ◌∙◌, Some, None, Option, subst}
use Rattle.std.specs.Prelude.{option_map, if◌then◌else◌, ◌==◌, ◌&&◌, ◌||◌, not, unwrap_or, position}
use Rattle.std.proofs.lemmas.Bool.{eq-eqb, eqb-true, false_from_ne_true}
use Rattle.pipe_types.specs.declared.numbers.StageNo.{StageNo}
use Rattle.pipe_types.specs.declared.numbers.BatchNo.{BatchNo}
use Rattle.pipe_types.specs.declared.topology.Topology.{Topology}
use Rattle.pipe_types.specs.declared.message.Outcome.{Outcome}
use Rattle.pipe_types.specs.declared.message.Place.{Place}
use Rattle.pipe_types.specs.declared.message.Place.TheVariants.{Waiting, Inbox, Running, Gathered, InBatch, Acked, Lost}
use Rattle.pipe_types.specs.declared.message.BatchEnd.TheVariants.{Outcomes}
use Rattle.pipe_types.specs.declared.step.Step.{Step}
use Rattle.pipe_types.specs.declared.step.Step.TheVariants.{Close, Wrote}
use Rattle.pipe_types.specs.Numbers.{same_stage, batch_no}
use Rattle.pipe_model.specs.History.{History, closed}
use Rattle.pipe_model.specs.Batches.{Batch, Sent, Leg, is_settled, settled_as, lost_leg, failed_leg, on_legs, leg_answered, batch_on_legs}
use Rattle.pipe_model.specs.Flow.{place, batch, view_of, among, closing, put_in_batch, numbers_in, by_batch, place_in_batch, new_batch, change_place}
use Rattle.pipe_model.specs.Work.{taken_units}
use Rattle.pipe_model.specs.Legal.{is_legal}
use Rattle.pipe_laws.proofs.Tests.{clash}
use Rattle.pipe_laws.proofs.Lists.{each_among}
use Rattle.pipe_laws.proofs.Places.{move_by}
use Rattle.pipe_laws.proofs.Progress.{in_batch_before, in_batch_going, progress_exists}
use Rattle.pipe_laws.proofs.Allowed.{legal_before}
use Rattle.queue_laws.proofs.Batched.{BatchHolds, batch_holds}
use Rattle.queue_laws.proofs.Writes.{wrote_others}
use Rattle.queue_laws.proofs.OneLeg.{numbers_kept}
use Rattle.pipe_model.specs.Standing.{in_progress}
use Rattle.queue_laws.proofs.Batched.{going_in}

-- a message in a batch is one of its numbers
kept_in : (topology : Topology) (before : History) (step : Step) (n : ℕ) (b : BatchNo) → place topology before n ≡ Some (InBatch b) → among (numbers_in (batch topology before b.0)) n ≡ true → among (numbers_in (batch topology (step ∷ before) b.0)) n ≡ true
kept_in topology before step n b e old =
    ap (λ ns. among ns n) (numbers_kept topology before step b.0 (progress_exists (batch topology before b.0) (in_batch_going topology before n b e))) ∙ old

pub in_numbers : (topology : Topology) (before : History) (n : ℕ) (b : BatchNo) → place topology before n ≡ Some (InBatch b) → among (numbers_in (batch topology before b.0)) n ≡ true
in_numbers topology [] n b e = cc
in_numbers topology (Close s first trigger ∷ before) n b e = by (place topology before n) refl e (in_numbers topology before n b)
  where
    ns : List ℕ
    ns = closing before (view_of topology before) s first.0

    joined : (c : ℕ) → b ≡ batch_no c → c ≡ closed before + 1 → among (closing before (view_of topology before) s first.0) n ≡ true → among (numbers_in (new_batch (b.0 == closed before + 1) (closing before (view_of topology before) s first.0) s (batch topology before b.0))) n ≡ true
    joined c is at h = ap (λ t. among (numbers_in (new_batch t (closing before (view_of topology before) s first.0) s (batch topology before b.0))) n) (eq-eqb b.0 (closed before + 1) (ap (λ (x : BatchNo). x.0) is ∙ at)) ∙ h

    by : (p : Option Place) → place topology before n ≡ p → option_map (put_in_batch (closing before (view_of topology before) s first.0) s (closed before + 1) n) p ≡ Some (InBatch b) → (place topology before n ≡ Some (InBatch b) → among (numbers_in (batch topology before b.0)) n ≡ true)
        → among (numbers_in (batch topology (Close s first trigger ∷ before) b.0)) n ≡ true
    by (Some (InBatch d)) was h old = let here : place topology before n ≡ Some (InBatch b) = was ∙ h in kept_in topology before (Close s first trigger) n b here (old here)
    by (Some (Gathered t)) was h old = either (same_stage s t) (among (closing before (view_of topology before) s first.0) n) refl h
      where
        either : (x y : Bool) → among (closing before (view_of topology before) s first.0) n ≡ y → Some (if x && y then InBatch (batch_no (closed before + 1)) else Gathered t) ≡ Some (InBatch b) → among (numbers_in (batch topology (Close s first trigger ∷ before) b.0)) n ≡ true
        either true true e k = let is : b ≡ batch_no (closed before + 1) = cc in joined (closed before + 1) is refl e
        either true false e k = cc
        either false y e k = cc
    by _ was h old = cc
in_numbers topology (step ∷ before) n b e =
    let was = in_batch_before topology before step b (place topology before n) (place topology (step ∷ before) n) (move_by topology before step n) refl e in
    kept_in topology before step n b was (in_numbers topology before n b was)

-- where the messages of a batch stand once its legs are so
abbrev pub settled_by : List ℕ → List Leg → ℕ → Place → Place
settled_by numbers legs n p =
    if is_settled legs && among numbers n then settled_as (lost_leg legs) (failed_leg legs (unwrap_or (position (λ m. m == n) numbers) 0)) else p

-- a write changes the messages of the one batch that was taken, and those only when its last leg is answered
pub wrote_places : (topology : Topology) (before : History) (s : StageNo) (bytes : ℕ) (outcomes : List Outcome) (b : ℕ) (numbers : List ℕ) (legs : List Leg)
    → is_legal topology (Wrote s bytes (Outcomes outcomes) ∷ before) ≡ true → taken_units topology before s ≡ b ∷ []
    → batch topology before b ≡ Some (record { numbers = numbers; place = Sent legs }) → is_settled legs ≡ false
    → (n : ℕ) → place topology (Wrote s bytes (Outcomes outcomes) ∷ before) n ≡ option_map (settled_by numbers (on_legs (leg_answered s outcomes) legs) n) (place topology before n)
wrote_places topology before s bytes outcomes b numbers legs h took is going_on_now n = by (place topology before n) refl
  where
    step : Step
    step = Wrote s bytes (Outcomes outcomes)

    new : batch topology (Wrote s bytes (Outcomes outcomes) ∷ before) b ≡ Some (record { numbers = numbers; place = Sent (on_legs (leg_answered s outcomes) legs) })
    new = ap (option_map (λ (x : Batch). change_place x (batch_on_legs (leg_answered s outcomes) x.place))) is

    -- the batch is in progress, so each of its numbers stands in it
    members : among numbers n ≡ true → place topology before n ≡ Some (InBatch (batch_no b))
    members m =
        let holds : BatchHolds topology before b (Some (record { numbers = numbers; place = Sent legs })) = subst (BatchHolds topology before b) is (batch_holds topology before b (legal_before topology before (Wrote s bytes (Outcomes outcomes)) h)) in
        each_among (λ k. place topology before k ≡ Some (InBatch (batch_no b))) numbers n (holds (ap not going_on_now)).each m

    outside : (p : Place) → place topology before n ≡ Some p → (p ≡ InBatch (batch_no b) → ⊥) → settled_by numbers (on_legs (leg_answered s outcomes) legs) n p ≡ p
    outside p e other =
        let none : among numbers n ≡ false = false_from_ne_true (among numbers n) (λ m. other (let same : Some p ≡ Some (InBatch (batch_no b)) = sym e ∙ members m in cc)) in
        ap (λ c. if is_settled (on_legs (leg_answered s outcomes) legs) && c then settled_as (lost_leg (on_legs (leg_answered s outcomes) legs)) (failed_leg (on_legs (leg_answered s outcomes) legs) (unwrap_or (position (λ m. m == n) numbers) 0)) else p) none
        ∙ both (is_settled (on_legs (leg_answered s outcomes) legs))
      where
        both : (a : Bool) → (if a && false then settled_as (lost_leg (on_legs (leg_answered s outcomes) legs)) (failed_leg (on_legs (leg_answered s outcomes) legs) (unwrap_or (position (λ m. m == n) numbers) 0)) else p) ≡ p
        both true = refl
        both false = refl

    by : (o : Option Place) → place topology before n ≡ o → option_map (by_batch (batch topology (Wrote s bytes (Outcomes outcomes) ∷ before)) n) o ≡ option_map (settled_by numbers (on_legs (leg_answered s outcomes) legs) n) o
    by None e = refl
    by (Some (Waiting t)) e = ap Some (sym (outside (Waiting t) e (λ k. cc)))
    by (Some (Inbox u)) e = ap Some (sym (outside (Inbox u) e (λ k. cc)))
    by (Some (Running t)) e = ap Some (sym (outside (Running t) e (λ k. cc)))
    by (Some (Gathered t)) e = ap Some (sym (outside (Gathered t) e (λ k. cc)))
    by (Some (Acked o)) e = ap Some (sym (outside (Acked o) e (λ k. cc)))
    by (Some (Lost l)) e = ap Some (sym (outside (Lost l) e (λ k. cc)))
    by (Some (InBatch d)) e = either (b == d.0) refl
      where
        either : (c : Bool) → (b == d.0) ≡ c → Some (place_in_batch d.0 (batch topology (Wrote s bytes (Outcomes outcomes) ∷ before) d.0) n) ≡ Some (settled_by numbers (on_legs (leg_answered s outcomes) legs) n (InBatch d))
        either true same =
            let at : b ≡ d.0 = eqb-true b d.0 same in
            let ours : batch_no b ≡ d = ap batch_no at in
            let mine : among numbers n ≡ true = ap (λ o. among (numbers_in o) n) (sym is) ∙ in_numbers topology before n (batch_no b) (e ∙ ap (λ x. Some (InBatch x)) (sym ours)) in
            ap (λ k. Some (place_in_batch k (batch topology (Wrote s bytes (Outcomes outcomes) ∷ before) k) n)) (sym at)
            ∙ (ap (λ o. Some (place_in_batch b o n)) new
            ∙ (ap (λ x. Some (if is_settled (on_legs (leg_answered s outcomes) legs) then settled_as (lost_leg (on_legs (leg_answered s outcomes) legs)) (failed_leg (on_legs (leg_answered s outcomes) legs) (unwrap_or (position (λ m. m == n) numbers) 0)) else InBatch x)) ours
            ∙ ap (λ c. Some (if c then settled_as (lost_leg (on_legs (leg_answered s outcomes) legs)) (failed_leg (on_legs (leg_answered s outcomes) legs) (unwrap_or (position (λ m. m == n) numbers) 0)) else InBatch d)) (and_true (is_settled (on_legs (leg_answered s outcomes) legs)) (among numbers n) mine)))
          where
            and_true : (x y : Bool) → y ≡ true → x ≡ (x && y)
            and_true true y k = sym k
            and_true false y k = refl
        either false other =
            let apart : b ≡ d.0 → ⊥ = λ k. clash (b == d.0) (eq-eqb b d.0 k) other in
            let free : among (taken_units topology before s) d.0 ≡ false = ap (λ us. among us d.0) took ∙ ap (λ c. c || false) other in
            let going_on = in_batch_going topology before n d e in
            ap (λ o. Some (place_in_batch d.0 o n)) (wrote_others topology before s bytes outcomes d.0 h free)
            ∙ (stays_in (batch topology before d.0) going_on ∙ ap Some (sym (outside (InBatch d) e (λ k. apart (let is : batch_no b ≡ d = cc in ap (λ (x : BatchNo). x.0) is)))))
          where
            stays_in : (o : Option Batch) → in_progress o ≡ true → Some (place_in_batch d.0 o n) ≡ Some (InBatch d)
            stays_in None k = cc
            stays_in (Some x) k = ap Some (going_in d.0 x.place (unwrap_or (position (λ m. m == n) x.numbers) 0) k)
