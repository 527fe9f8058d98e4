-- What a test that holds of no place in progress holds of after a step: of no place of which it did not hold before.
use Rattle.std.proofs.Common.{◌≡◌, ℕ, List, [], ◌∷◌, Bool, true, false, refl, Some, None, Option}
use Rattle.std.specs.Prelude.{if◌then◌else◌, ◌==◌, ◌&&◌, option_map, slice_get}
use Rattle.pipe_types.specs.declared.numbers.SubNo.{SubNo}
use Rattle.pipe_types.specs.declared.numbers.StageNo.{StageNo}
use Rattle.pipe_types.specs.declared.reason.Reason.{Reason}
use Rattle.pipe_types.specs.declared.message.Outcome.{Outcome}
use Rattle.pipe_types.specs.declared.message.Outcome.TheVariants.{Successful, Failed}
use Rattle.pipe_types.specs.declared.message.Place.{Place}
use Rattle.pipe_types.specs.declared.message.Place.TheVariants.{Inbox, Running, Gathered, InBatch, Acked}
use Rattle.pipe_types.specs.declared.message.Reply.{Reply}
use Rattle.pipe_types.specs.Numbers.{same_stage, batch_no}
use Rattle.pipe_model.specs.Content.{is_among_next}
use Rattle.pipe_model.specs.Batches.{BatchPlace, AtBatcher, Sent, Leg, LegPlace, Answered, settled_as, failed_leg, on_legs, new_legs, batch_sent, batch_on_legs}
use Rattle.pipe_model.specs.Flow.{among, taken, done, answered, reply_to, gathered, put_in_batch, accepted_to}

pub mapped_clear : (bad : Option Place → Bool) (f : Place → Place) → ((p : Place) → bad (Some p) ≡ false → bad (Some (f p)) ≡ false) → (o : Option Place) → bad o ≡ false → bad (option_map f o) ≡ false
mapped_clear bad f keeps None h = h
mapped_clear bad f keeps (Some p) h = keeps p h

pub accepted_clear : (bad : Option Place → Bool) (from count n : ℕ) (p : Place) (old : Option Place) → bad (Some p) ≡ false → bad old ≡ false → bad (accepted_to from count p n old) ≡ false
accepted_clear bad from count n p (Some q) new h = h
accepted_clear bad from count n p None new h = either (is_among_next from count n)
  where
    either : (b : Bool) → bad (if b then Some p else None) ≡ false
    either true = new
    either false = h

pub taken_clear : (bad : Option Place → Bool) (chunk : List ℕ) (s : StageNo) (n : ℕ) → bad (Some (Running s)) ≡ false → (p : Place) → bad (Some p) ≡ false → bad (Some (taken chunk s n p)) ≡ false
taken_clear bad chunk s n runs (Inbox u) h = either (same_stage s u.consumer && among chunk n)
  where
    either : (b : Bool) → bad (Some (if b then Running s else Inbox u)) ≡ false
    either true = runs
    either false = h
taken_clear bad chunk s n runs p h = h

pub done_clear : (bad : Option Place → Bool) (b : Bool) (chunk : List ℕ) (replies : List Reply) (s : StageNo) (n : ℕ) → bad (Some (answered b s (reply_to chunk replies n))) ≡ false → (p : Place) → bad (Some p) ≡ false → bad (Some (done b chunk replies s n p)) ≡ false
done_clear bad b chunk replies s n ends (Running t) h = either (same_stage s t)
  where
    either : (a : Bool) → bad (Some (if a then answered b s (reply_to chunk replies n) else Running t)) ≡ false
    either true = ends
    either false = h
done_clear bad b chunk replies s n ends p h = h

pub gathered_clear : (bad : Option Place → Bool) (s : StageNo) (m n : ℕ) → bad (Some (Gathered s)) ≡ false → (p : Place) → bad (Some p) ≡ false → bad (Some (gathered s m n p)) ≡ false
gathered_clear bad s m n waits (Inbox u) h = either (same_stage s u.consumer && m == n)
  where
    either : (b : Bool) → bad (Some (if b then Gathered s else Inbox u)) ≡ false
    either true = waits
    either false = h
gathered_clear bad s m n waits p h = h

pub joined_clear : (bad : Option Place → Bool) (numbers : List ℕ) (s : StageNo) (b n : ℕ) → bad (Some (InBatch (batch_no b))) ≡ false → (p : Place) → bad (Some p) ≡ false → bad (Some (put_in_batch numbers s b n p)) ≡ false
joined_clear bad numbers s b n joins (Gathered t) h = either (same_stage s t && among numbers n)
  where
    either : (a : Bool) → bad (Some (if a then InBatch (batch_no b) else Gathered t)) ≡ false
    either true = joins
    either false = h
joined_clear bad numbers s b n joins p h = h

-- what holds of a success and of each failure holds of a message of legs of which none is lost
pub failed_as : (P : Place → Type 0) → P (Acked Successful) → ((why : Reason) → P (Acked (Failed why))) → (legs : List Leg) (i : ℕ) → P (settled_as None (failed_leg legs i))
failed_as P good fails [] i = good
failed_as P good fails (leg ∷ legs) i = by_place leg.sub leg.place (failed_as P good fails legs i)
  where
    by_outcome : (u : SubNo) (outcomes : List Outcome) (o : Option Outcome) → slice_get outcomes i ≡ o → P (settled_as None (failed_leg legs i)) → P (settled_as None (failed_leg (record { sub = u; place = Answered outcomes } ∷ legs) i))
    by_outcome u outcomes (Some (Failed why)) e h = rw e (fails why)
    by_outcome u outcomes (Some Successful) e h = rw e h
    by_outcome u outcomes None e h = rw e h

    by_place : (u : SubNo) (p : LegPlace) → P (settled_as None (failed_leg legs i)) → P (settled_as None (failed_leg (record { sub = u; place = p } ∷ legs) i))
    by_place u (Answered outcomes) h = by_outcome u outcomes (slice_get outcomes i) refl h
    by_place u _ h = h

-- a test that holds of new legs holds of a batch that is sent
pub sent_clear : (good : BatchPlace → Bool) → ((subs : List SubNo) → good (Sent (new_legs subs)) ≡ true) → (s : StageNo) (is_alone : Bool) (subs : List SubNo) (p : BatchPlace) → good p ≡ true → good (batch_sent s is_alone subs p) ≡ true
sent_clear good new s is_alone [] (AtBatcher t) h = either (is_alone && same_stage s t)
  where
    either : (b : Bool) → good (if b then Sent [] else AtBatcher t) ≡ true
    either true = new []
    either false = h
sent_clear good new s is_alone (u ∷ subs) (AtBatcher t) h = either (same_stage s t)
  where
    either : (b : Bool) → good (if b then Sent (new_legs (u ∷ subs)) else AtBatcher t) ≡ true
    either true = new (u ∷ subs)
    either false = h
sent_clear good new s is_alone [] p h = h
sent_clear good new s is_alone (u ∷ subs) p h = h

-- a change of legs that keeps the test of them keeps it of the batch
pub on_legs_clear : (good : BatchPlace → Bool) (change : SubNo → LegPlace → LegPlace) → ((legs : List Leg) → good (Sent legs) ≡ true → good (Sent (on_legs change legs)) ≡ true) → (p : BatchPlace) → good p ≡ true → good (batch_on_legs change p) ≡ true
on_legs_clear good change keeps (Sent legs) h = keeps legs h
on_legs_clear good change keeps p h = h
