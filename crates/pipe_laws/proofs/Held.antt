-- Every message stands in a live stage, in a batch, or is settled.
use Rattle.std.proofs.Common.{◌≡◌, ℕ, [], ◌∷◌, Bool, true, false, refl, Some, None, Option}
use Rattle.std.specs.Prelude.{if◌then◌else◌, ◌&&◌, option_map, is_some}
use Rattle.pipe_types.specs.declared.numbers.StageNo.{StageNo}
use Rattle.pipe_types.specs.declared.topology.Topology.{Topology}
use Rattle.pipe_types.specs.declared.topology.StageSpec.{StageSpec}
use Rattle.pipe_types.specs.declared.topology.Role.{Role}
use Rattle.pipe_types.specs.declared.message.Place.{Place}
use Rattle.pipe_types.specs.declared.message.Place.TheVariants.{Waiting, Inbox, Running, Gathered, InBatch, Acked, Lost}
use Rattle.pipe_types.specs.declared.message.Why.{Why}
use Rattle.pipe_types.specs.declared.step.Step.{Step}
use Rattle.pipe_types.specs.declared.step.Step.TheVariants.{Accept, Dispatch, Take, Done, Gather, Close, Wrote, Child, ChildEnd, Kill, Late, Restart, Halt}
use Rattle.pipe_types.specs.declared.step.LateAnswer.TheVariants.{Records}
use Rattle.pipe_types.specs.Numbers.{same_stage, batch_no}
use Rattle.pipe_types.specs.Stages.{spec_of}
use Rattle.pipe_model.specs.History.{History, incarnation}
use Rattle.pipe_model.specs.Content.{has_crash, is_among_next}
use Rattle.pipe_model.specs.Batches.{Batch, BatchPlace, AtBatcher, Sent, Dropped, is_settled, settled_as, lost_leg, failed_leg, place_by_batch}
use Rattle.pipe_model.specs.Lives.{KillSet, reason_in, is_live, is_alive, death, death_after, kill_set}
use Rattle.pipe_model.specs.Flow.{place, batch, accepted_to, late_place, by_batch, place_in_batch, killed, lost_with}
use Rattle.pipe_model.specs.Legal.{is_legal, has_role, is_producer_role}
use Rattle.pipe_model.specs.Moves.{is_final}
use Rattle.pipe_laws.proofs.Tests.{and_left, clash}
use Rattle.pipe_laws.proofs.Places.{Move, stays, comes, comes_lost, sent_on, runs, waits, is_gathered, joins, ends, move_by, settled_final}
use Rattle.pipe_laws.proofs.Allowed.{legal_before, legal_step, accept_live, late_facts}

-- the place is in a live stage, in a batch or final
abbrev pub stands_live : (StageNo → Bool) → Option Place → Bool
stands_live live (Some (Waiting s)) = live s
stands_live live (Some (Inbox u)) = live u.consumer
stands_live live (Some (Running s)) = live s
stands_live live (Some (Gathered s)) = live s
stands_live live _ = true

final_stands : (live : StageNo → Bool) (p : Place) → is_final (Some p) ≡ true → stands_live live (Some p) ≡ true
final_stands live (Acked o) h = refl
final_stands live (Lost l) h = refl
final_stands live (InBatch b) h = refl
final_stands live _ h = cc

held_move : (topology : Topology) (before : History) (step : Step) (p q : Option Place) → Move topology before step p q → ((s : StageNo) → p ≡ None → q ≡ Some (Waiting s) → ⊥) → stands_live (is_live topology before) p ≡ true → stands_live (is_live topology before) q ≡ true
held_move topology before step p q stays none held = held
held_move topology before step p q (comes s) none held = absurd (none s refl refl)
held_move topology before step p q (comes_lost loss) none held = refl
held_move topology before step p q (sent_on s u on) none held = on.live
held_move topology before step p q (runs u from) none held = held
held_move topology before step p q (waits s) none held = held
held_move topology before step p q (is_gathered u) none held = held
held_move topology before step p q (joins s b from) none held = refl
held_move topology before step p q (ends x y final) none held = final_stands (is_live topology before) y final

none_comes : (f : Place → Place) (o : Option Place) (s : StageNo) → o ≡ None → option_map f o ≡ Some (Waiting s) → ⊥
none_comes f None s e h = let x : None ≡ Some (Waiting s) = h in cc
none_comes f (Some p) s e h = cc

same_comes : (o : Option Place) (s : StageNo) → o ≡ None → o ≡ Some (Waiting s) → ⊥
same_comes o s e h = cc

held_accepted : (live : StageNo → Bool) (from count n : ℕ) (p : Place) (old : Option Place) → stands_live live (Some p) ≡ true → stands_live live old ≡ true → stands_live live (accepted_to from count p n old) ≡ true
held_accepted live from count n p (Some q) new held = held
held_accepted live from count n p None new held = either (is_among_next from count n)
  where
    either : (b : Bool) → stands_live live (if b then Some p else None) ≡ true
    either true = new
    either false = refl

-- Lives

-- a stage that a step does not kill stays live
pub alive_unkilled : (topology : Topology) (why : Option Why) (b : Bool) (old : Option Why) (s : StageNo) → why ≡ None → is_alive topology old s ≡ true → is_alive topology (death_after why b old) s ≡ true
alive_unkilled topology (Some w) b old s e h = cc
alive_unkilled topology None false old s e h = h
alive_unkilled topology None true old s e h = both_of (is_some (spec_of topology s)) (and_left (is_some (spec_of topology s)) _ h)
  where
    both_of : (b : Bool) → b ≡ true → (b && true) ≡ true
    both_of true e = refl
    both_of false e = e

pub restart_live : (topology : Topology) (before : History) (t s : StageNo) → is_live topology before s ≡ true → is_live topology (Restart t ∷ before) s ≡ true
restart_live topology before t s h = alive_unkilled topology None (same_stage s t) (death topology before s) s refl h

-- where the stage was dead before a restart it is live afterwards only by it
pub killed_dead : (topology : Topology) (why : Option Why) (w : Why) (old : Option Why) (s : StageNo) → why ≡ Some w → is_alive topology (death_after why false old) s ≡ false
killed_dead topology (Some v) w old s e = and_false (is_some (spec_of topology s))
  where
    and_false : (b : Bool) → (b && false) ≡ false
    and_false true = refl
    and_false false = refl
killed_dead topology None w old s e = cc

held_more : (one other : StageNo → Bool) → ((s : StageNo) → one s ≡ true → other s ≡ true) → (p : Option Place) → stands_live one p ≡ true → stands_live other p ≡ true
held_more one other f (Some (Waiting s)) h = f s h
held_more one other f (Some (Inbox u)) h = f u.consumer h
held_more one other f (Some (Running s)) h = f s h
held_more one other f (Some (Gathered s)) h = f s h
held_more one other f _ h = refl

-- Kills

by_place_stands : (live : StageNo → Bool) (b i : ℕ) (p : BatchPlace) → stands_live live (Some (place_by_batch b p i)) ≡ true
by_place_stands live b i (AtBatcher s) = refl
by_place_stands live b i (Dropped l) = refl
by_place_stands live b i (Sent legs) = either (is_settled legs)
  where
    either : (a : Bool) → stands_live live (Some (if a then settled_as (lost_leg legs) (failed_leg legs i) else InBatch (batch_no b))) ≡ true
    either true = final_stands live _ (settled_final legs i)
    either false = refl

in_batch_stands : (live : StageNo → Bool) (b n : ℕ) (o : Option Batch) → stands_live live (Some (place_in_batch b o n)) ≡ true
in_batch_stands live b n None = refl
in_batch_stands live b n (Some x) = by_place_stands live b _ x.place

held_killed : (topology : Topology) (before : History) (set : KillSet) (incarnation : StageNo → ℕ) (after : ℕ → Option Batch) (n : ℕ) (live : StageNo → Bool) → ((s : StageNo) → reason_in set s ≡ None → is_live topology before s ≡ true → live s ≡ true) → (p : Option Place) → stands_live (is_live topology before) p ≡ true → stands_live live (option_map (λ q. by_batch after n (killed set incarnation q)) p) ≡ true
held_killed topology before set incarnation after n live keeps (Some (Waiting s)) h = either (reason_in set s) refl
  where
    either : (why : Option Why) → reason_in set s ≡ why → stands_live live (Some (by_batch after n (lost_with (incarnation s) s why (Waiting s)))) ≡ true
    either None e = keeps s e h
    either (Some why) e = refl
held_killed topology before set incarnation after n live keeps (Some (Inbox u)) h = either (reason_in set u.consumer) refl
  where
    either : (why : Option Why) → reason_in set u.consumer ≡ why → stands_live live (Some (by_batch after n (lost_with (incarnation u.consumer) u.consumer why (Inbox u)))) ≡ true
    either None e = keeps u.consumer e h
    either (Some why) e = refl
held_killed topology before set incarnation after n live keeps (Some (Running s)) h = either (reason_in set s) refl
  where
    either : (why : Option Why) → reason_in set s ≡ why → stands_live live (Some (by_batch after n (lost_with (incarnation s) s why (Running s)))) ≡ true
    either None e = keeps s e h
    either (Some why) e = refl
held_killed topology before set incarnation after n live keeps (Some (Gathered s)) h = either (reason_in set s) refl
  where
    either : (why : Option Why) → reason_in set s ≡ why → stands_live live (Some (by_batch after n (lost_with (incarnation s) s why (Gathered s)))) ≡ true
    either None e = keeps s e h
    either (Some why) e = refl
held_killed topology before set incarnation after n live keeps (Some (InBatch b)) h = in_batch_stands live b.0 n (after b.0)
held_killed topology before set incarnation after n live keeps _ h = refl

pub role_known : (topology : Topology) (s : StageNo) (test : Role → Bool) → has_role topology s test ≡ true → is_some (spec_of topology s) ≡ true
role_known topology s test h = by_spec (spec_of topology s) refl
  where
    by_spec : (o : Option StageSpec) → spec_of topology s ≡ o → is_some o ≡ true
    by_spec (Some spec) e = refl
    by_spec None e = let x : has_role topology s test ≡ false = rw e refl in clash (has_role topology s test) h x

-- every message of a legal journal
pub held : (topology : Topology) (before : History) (n : ℕ) → is_legal topology before ≡ true → stands_live (is_live topology before) (place topology before n) ≡ true
held topology [] n h = refl
held topology (Accept s records ∷ before) n h =
    held_accepted (is_live topology before) _ _ n (Waiting s) (place topology before n)
    (accept_live topology before s records (legal_step topology before (Accept s records) h))
    (held topology before n (legal_before topology before (Accept s records) h))
held topology (Late s slot i (Records records) ∷ before) n h =
    held_accepted (is_live topology before) _ _ n (late_place s i (death topology before s)) (place topology before n)
    (by_death (death topology before s) refl)
    (held topology before n (legal_before topology before (Late s slot i (Records records)) h))
  where
    by_death : (why : Option Why) → death topology before s ≡ why → stands_live (is_live topology before) (Some (late_place s i why)) ≡ true
    by_death (Some why) e = refl
    by_death None e =
        let facts = late_facts topology before s slot i (Records records) (legal_step topology before (Late s slot i (Records records)) h) in
        rw (e, role_known topology s is_producer_role (and_left (has_role topology s is_producer_role) _ facts.fits)) refl
held topology (Kill s why ∷ before) n h =
    held_killed topology before (kill_set topology before (Kill s why)) (incarnation before) (batch topology (Kill s why ∷ before)) n (is_live topology (Kill s why ∷ before))
    (λ t e live. alive_unkilled topology (reason_in (kill_set topology before (Kill s why)) t) false (death topology before t) t e live)
    (place topology before n) (held topology before n (legal_before topology before (Kill s why) h))
held topology (Halt ∷ before) n h =
    held_killed topology before (kill_set topology before Halt) (incarnation before) (batch topology (Halt ∷ before)) n (is_live topology (Halt ∷ before))
    (λ t e live. alive_unkilled topology (reason_in (kill_set topology before Halt) t) false (death topology before t) t e live)
    (place topology before n) (held topology before n (legal_before topology before Halt h))
held topology (Restart t ∷ before) n h =
    held_more (is_live topology before) (is_live topology (Restart t ∷ before)) (restart_live topology before t) (place topology before n)
    (held topology before n (legal_before topology before (Restart t) h))
held topology (Done s replies ∷ before) n h =
    held_move topology before (Done s replies) (place topology before n) (place topology (Done s replies ∷ before) n) (move_by topology before (Done s replies) n) (either (has_crash replies) _) (held topology before n (legal_before topology before (Done s replies) h))
  where
    either : (b : Bool) (f : Place → Place) (t : StageNo) → place topology before n ≡ None → (if b then place topology before n else option_map f (place topology before n)) ≡ Some (Waiting t) → ⊥
    either true f t = same_comes (place topology before n) t
    either false f t = none_comes f (place topology before n) t
held topology (Dispatch s ∷ before) n h =
    held_move topology before (Dispatch s) _ _ (move_by topology before (Dispatch s) n) (none_comes _ (place topology before n)) (held topology before n (legal_before topology before (Dispatch s) h))
held topology (Take s u k ∷ before) n h =
    held_move topology before (Take s u k) _ _ (move_by topology before (Take s u k) n) (none_comes _ (place topology before n)) (held topology before n (legal_before topology before (Take s u k) h))
held topology (Gather s m ∷ before) n h =
    held_move topology before (Gather s m) _ _ (move_by topology before (Gather s m) n) (none_comes _ (place topology before n)) (held topology before n (legal_before topology before (Gather s m) h))
held topology (Close s first trigger ∷ before) n h =
    held_move topology before (Close s first trigger) _ _ (move_by topology before (Close s first trigger) n) (none_comes _ (place topology before n)) (held topology before n (legal_before topology before (Close s first trigger) h))
held topology (Wrote s bytes end ∷ before) n h =
    held_move topology before (Wrote s bytes end) _ _ (move_by topology before (Wrote s bytes end) n) (none_comes _ (place topology before n)) (held topology before n (legal_before topology before (Wrote s bytes end) h))
held topology (Child s m slot ∷ before) n h =
    held_move topology before (Child s m slot) _ _ (move_by topology before (Child s m slot) n) (none_comes _ (place topology before n)) (held topology before n (legal_before topology before (Child s m slot) h))
held topology (ChildEnd s slot reply ∷ before) n h =
    held_move topology before (ChildEnd s slot reply) _ _ (move_by topology before (ChildEnd s slot reply) n) (none_comes _ (place topology before n)) (held topology before n (legal_before topology before (ChildEnd s slot reply) h))
held topology (step ∷ before) n h = held topology before n (legal_before topology before step h)
