-- Where all pass, no message is failed.
use Rattle.std.proofs.Common.{◌≡◌, ℕ, List, [], ◌∷◌, Bool, true, false, refl, Some, None, Option}
use Rattle.std.specs.Prelude.{if◌then◌else◌, ◌==◌, ◌&&◌, option_map}
use Rattle.std.specs.List.{list_all}
use Rattle.pipe_types.specs.declared.numbers.StageNo.{StageNo}
use Rattle.pipe_types.specs.declared.numbers.SubNo.{SubNo}
use Rattle.pipe_types.specs.declared.topology.Topology.{Topology}
use Rattle.pipe_types.specs.declared.message.Place.{Place}
use Rattle.pipe_types.specs.declared.message.Outcome.TheVariants.{Successful}
use Rattle.pipe_types.specs.declared.message.Place.TheVariants.{Waiting, Inbox, Running, Gathered, InBatch, Acked}
use Rattle.pipe_types.specs.declared.message.Reply.{Reply}
use Rattle.pipe_types.specs.declared.message.Reply.TheVariants.{Pass, Failed as FailedReply, Raised, Crashed}
use Rattle.pipe_types.specs.declared.message.Why.{Why}
use Rattle.pipe_types.specs.declared.room.Sent.{Sent as SentUnit}
use Rattle.pipe_types.specs.declared.step.Step.TheVariants.{Accept, Dispatch, Take, Done, Gather, Close, Wrote, Child, ChildEnd, Kill, Late, Halt}
use Rattle.pipe_types.specs.declared.step.LateAnswer.TheVariants.{Records}
use Rattle.pipe_types.specs.Numbers.{same_stage}
use Rattle.pipe_types.specs.Stages.{spec_of}
use Rattle.pipe_model.specs.History.{History, incarnation}
use Rattle.pipe_model.specs.Posts.{in_slot, crashes}
use Rattle.pipe_model.specs.Content.{has_crash}
use Rattle.pipe_model.specs.Lives.{KillSet, death, kill_set, reason_in}
use Rattle.pipe_model.specs.Batches.{Batch}
use Rattle.pipe_model.specs.Flow.{place, batch, among, subs_of, dispatched, waiting_after, done, answered, reply_to, by_batch, killed, lost_with, child_ended, child_place, runs_again, is_number, late_place}
use Rattle.pipe_model.specs.Acknowledgements.{is_acked_failed}
use Rattle.stage_callback.specs.Callbacks.{is_passed}
use Rattle.pipe_laws.proofs.Carried.{mapped_clear, accepted_clear, taken_clear, done_clear, gathered_clear, joined_clear}
use Rattle.pipe_laws.proofs.Tests.{and_left, and_right}
use Rattle.body_laws.specs.Passes.{all_pass}
use Rattle.body_laws.proofs.Legs.{pass_before, pass_here, batch_passes, batches_pass, batch_leaves}

late_fine : (s : StageNo) (i : ℕ) (why : Option Why) → is_acked_failed (Some (late_place s i why)) ≡ false
late_fine s i (Some why) = refl
late_fine s i None = refl

dispatched_fine : (units : List SentUnit) (over alone : List ℕ) (s : StageNo) (n : ℕ) (p : Place) → is_acked_failed (Some p) ≡ false → is_acked_failed (Some (dispatched units over alone s n p)) ≡ false
dispatched_fine units over alone s n (Waiting t) h = by_stage (same_stage s t) (subs_of units n) (among over n)
  where
    by_stage : (b : Bool) (subs : List SubNo) (is_over : Bool) → is_acked_failed (Some (if b then waiting_after subs is_over s else Waiting t)) ≡ false
    by_stage true [] true = refl
    by_stage true [] false = refl
    by_stage true (u ∷ subs) is_over = refl
    by_stage false subs is_over = refl
dispatched_fine units over alone s n (InBatch b) h = by_lone (among alone b.0)
  where
    by_lone : (a : Bool) → is_acked_failed (Some (if a then Acked Successful else InBatch b)) ≡ false
    by_lone true = refl
    by_lone false = refl
dispatched_fine units over alone s n p h = h

-- no reply, or a pass
abbrev passed_or_none : Option Reply → Bool
passed_or_none None = true
passed_or_none (Some reply) = is_passed reply

reply_passes : (chunk : List ℕ) (replies : List Reply) (n : ℕ) → list_all is_passed replies ≡ true → passed_or_none (reply_to chunk replies n) ≡ true
reply_passes [] replies n h = refl
reply_passes (m ∷ chunk) [] n h = refl
reply_passes (m ∷ chunk) (r ∷ replies) n h = either (m == n) (and_left (is_passed r) (list_all is_passed replies) h) (reply_passes chunk replies n (and_right (is_passed r) (list_all is_passed replies) h))
  where
    either : (b : Bool) → is_passed r ≡ true → passed_or_none (reply_to chunk replies n) ≡ true → passed_or_none (if b then Some r else reply_to chunk replies n) ≡ true
    either true here rest = here
    either false here rest = rest

answered_fine : (b : Bool) (s : StageNo) (reply : Option Reply) → passed_or_none reply ≡ true → is_acked_failed (Some (answered b s reply)) ≡ false
answered_fine true s (Some (Pass m)) h = refl
answered_fine false s (Some (Pass m)) h = refl
answered_fine b s (Some (FailedReply why)) h = let x : false ≡ true = h in cc
answered_fine b s (Some (Raised why)) h = let x : false ≡ true = h in cc
answered_fine b s (Some Crashed) h = let x : false ≡ true = h in cc
answered_fine true s None h = refl
answered_fine false s None h = refl

done_fine : (b : Bool) (chunk : List ℕ) (replies : List Reply) (s : StageNo) (n : ℕ) → list_all is_passed replies ≡ true → (p : Place) → is_acked_failed (Some p) ≡ false → is_acked_failed (Some (done b chunk replies s n p)) ≡ false
done_fine b chunk replies s n good = done_clear is_acked_failed b chunk replies s n (answered_fine b s (reply_to chunk replies n) (reply_passes chunk replies n good))

by_batch_fine : (after : ℕ → Option Batch) (n : ℕ) → ((b : ℕ) → batch_passes (after b) ≡ true) → (p : Place) → is_acked_failed (Some p) ≡ false → is_acked_failed (Some (by_batch after n p)) ≡ false
by_batch_fine after n good (InBatch b) h = batch_leaves b.0 (after b.0) n (good b.0)
by_batch_fine after n good p h = h

child_fine : (again : Bool) (s : StageNo) (i : ℕ) (reply : Reply) → is_passed reply ≡ true → is_acked_failed (Some (child_place again s i reply)) ≡ false
child_fine again s i (Pass m) h = refl
child_fine again s i (FailedReply why) h = let x : false ≡ true = h in cc
child_fine again s i (Raised why) h = let x : false ≡ true = h in cc
child_fine again s i Crashed h = let x : false ≡ true = h in cc

ended_fine : (again : Bool) (ended : Option ℕ) (s : StageNo) (i : ℕ) (reply : Reply) (n : ℕ) → is_passed reply ≡ true → (p : Place) → is_acked_failed (Some p) ≡ false → is_acked_failed (Some (child_ended again ended s i reply n p)) ≡ false
ended_fine again ended s i reply n good (Running t) h = either (same_stage s t && is_number ended n)
  where
    either : (a : Bool) → is_acked_failed (Some (if a then child_place again s i reply else Running t)) ≡ false
    either true = child_fine again s i reply good
    either false = refl
ended_fine again ended s i reply n good p h = h

lost_fine : (i : ℕ) (s : StageNo) (why : Option Why) (p : Place) → is_acked_failed (Some p) ≡ false → is_acked_failed (Some (lost_with i s why p)) ≡ false
lost_fine i s None p h = h
lost_fine i s (Some why) p h = refl

killed_fine : (set : KillSet) (incarnation : StageNo → ℕ) (p : Place) → is_acked_failed (Some p) ≡ false → is_acked_failed (Some (killed set incarnation p)) ≡ false
killed_fine set incarnation (Waiting s) h = lost_fine (incarnation s) s (reason_in set s) (Waiting s) refl
killed_fine set incarnation (Inbox u) h = lost_fine (incarnation u.consumer) u.consumer (reason_in set u.consumer) (Inbox u) refl
killed_fine set incarnation (Running s) h = lost_fine (incarnation s) s (reason_in set s) (Running s) refl
killed_fine set incarnation (Gathered s) h = lost_fine (incarnation s) s (reason_in set s) (Gathered s) refl
killed_fine set incarnation p h = h

-- where all pass, no message is failed
pub none_failed : (topology : Topology) (before : History) (n : ℕ) → all_pass before ≡ true → is_acked_failed (place topology before n) ≡ false
none_failed topology [] n h = refl
none_failed topology (Accept s records ∷ before) n h = accepted_clear is_acked_failed _ _ n (Waiting s) (place topology before n) refl (none_failed topology before n (pass_before before (Accept s records) h))
none_failed topology (Late s slot i (Records records) ∷ before) n h =
    accepted_clear is_acked_failed _ _ n (late_place s i (death topology before s)) (place topology before n) (late_fine s i (death topology before s)) (none_failed topology before n (pass_before before (Late s slot i (Records records)) h))
none_failed topology (Dispatch s ∷ before) n h = mapped_clear is_acked_failed _ (dispatched_fine _ _ _ s n) (place topology before n) (none_failed topology before n (pass_before before (Dispatch s) h))
none_failed topology (Take s u k ∷ before) n h = mapped_clear is_acked_failed _ (taken_clear is_acked_failed _ s n refl) (place topology before n) (none_failed topology before n (pass_before before (Take s u k) h))
none_failed topology (Done s replies ∷ before) n h =
    either (has_crash replies) _ (done_fine _ _ replies s n (pass_here before (Done s replies) h)) (none_failed topology before n (pass_before before (Done s replies) h))
  where
    either : (b : Bool) (f : Place → Place) → ((p : Place) → is_acked_failed (Some p) ≡ false → is_acked_failed (Some (f p)) ≡ false) → is_acked_failed (place topology before n) ≡ false
        → is_acked_failed (if b then place topology before n else option_map f (place topology before n)) ≡ false
    either true f keeps old = old
    either false f keeps old = mapped_clear is_acked_failed f keeps (place topology before n) old
none_failed topology (Gather s m ∷ before) n h = mapped_clear is_acked_failed _ (gathered_clear is_acked_failed s m.0 n refl) (place topology before n) (none_failed topology before n (pass_before before (Gather s m) h))
none_failed topology (Close s first trigger ∷ before) n h = mapped_clear is_acked_failed _ (joined_clear is_acked_failed _ s _ n refl) (place topology before n) (none_failed topology before n (pass_before before (Close s first trigger) h))
none_failed topology (Wrote s bytes end ∷ before) n h =
    mapped_clear is_acked_failed (by_batch (batch topology (Wrote s bytes end ∷ before)) n) (by_batch_fine (batch topology (Wrote s bytes end ∷ before)) n (λ b. batches_pass topology (Wrote s bytes end ∷ before) b h)) (place topology before n)
    (none_failed topology before n (pass_before before (Wrote s bytes end) h))
none_failed topology (Child s m slot ∷ before) n h = mapped_clear is_acked_failed _ (taken_clear is_acked_failed (m.0 ∷ []) s n refl) (place topology before n) (none_failed topology before n (pass_before before (Child s m slot) h))
none_failed topology (ChildEnd s slot reply ∷ before) n h =
    mapped_clear is_acked_failed _ (ended_fine (runs_again (spec_of topology s) (crashes before n)) (in_slot before s slot) s _ reply n (pass_here before (ChildEnd s slot reply) h)) (place topology before n)
    (none_failed topology before n (pass_before before (ChildEnd s slot reply) h))
none_failed topology (Kill s why ∷ before) n h =
    mapped_clear is_acked_failed (λ p. by_batch (batch topology (Kill s why ∷ before)) n (killed (kill_set topology before (Kill s why)) (incarnation before) p))
    (λ p fine. by_batch_fine (batch topology (Kill s why ∷ before)) n (λ b. batches_pass topology (Kill s why ∷ before) b h) (killed (kill_set topology before (Kill s why)) (incarnation before) p) (killed_fine (kill_set topology before (Kill s why)) (incarnation before) p fine))
    (place topology before n) (none_failed topology before n (pass_before before (Kill s why) h))
none_failed topology (Halt ∷ before) n h =
    mapped_clear is_acked_failed (λ p. by_batch (batch topology (Halt ∷ before)) n (killed (kill_set topology before Halt) (incarnation before) p))
    (λ p fine. by_batch_fine (batch topology (Halt ∷ before)) n (λ b. batches_pass topology (Halt ∷ before) b h) (killed (kill_set topology before Halt) (incarnation before) p) (killed_fine (kill_set topology before Halt) (incarnation before) p fine))
    (place topology before n) (none_failed topology before n (pass_before before Halt h))
none_failed topology (step ∷ before) n h = none_failed topology before n (pass_before before step h)
