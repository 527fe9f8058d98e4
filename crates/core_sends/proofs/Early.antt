-- No message waits in a batcher.
use Rattle.std.proofs.Common.{◌≡◌, ℕ, [], ◌∷◌, length, Bool, true, false, refl, ap, ◌∙◌, subst, Some, None, Option, arith}
use Rattle.std.specs.Prelude.{if◌then◌else◌, option_map}
use Rattle.std.proofs.lemmas.Bool.{false_from_ne_true}
use Rattle.pipe_types.specs.declared.numbers.StageNo.{StageNo}
use Rattle.pipe_types.specs.declared.topology.Topology.{Topology}
use Rattle.pipe_types.specs.declared.message.Place.{Place}
use Rattle.pipe_types.specs.declared.message.Place.TheVariants.{Waiting, Acked}
use Rattle.pipe_types.specs.declared.message.Why.{Why}
use Rattle.pipe_types.specs.declared.step.Step.{Step}
use Rattle.pipe_types.specs.declared.step.Step.TheVariants.{Accept, Dispatch, Done, Late}
use Rattle.pipe_types.specs.declared.step.LateAnswer.TheVariants.{Records}
use Rattle.pipe_types.specs.Stages.{spec_of}
use Rattle.pipe_laws.proofs.Allowed.{legal_before, legal_step, accept_role, late_facts}
use Rattle.pipe_laws.proofs.Levels.{rank}
use Rattle.pipe_laws.proofs.Places.{Move, stays, comes, comes_lost, sent_on, runs, waits, is_gathered, joins, ends, move_by}
use Rattle.pipe_laws.proofs.Tests.{clash, and_left, same_stage-true}
use Rattle.pipe_model.specs.Content.{is_among_next, has_crash}
use Rattle.pipe_model.specs.History.{History, accepted}
use Rattle.pipe_model.specs.Legal.{is_legal, allows, has_role, is_producer_role}
use Rattle.pipe_model.specs.Lives.{death}
use Rattle.pipe_model.specs.Flow.{place, view_of, deliveries, alone, lost_over, is_batcher, waits_in, late_place}
use Rattle.pipe_model.specs.Moves.{is_final}
use Rattle.queue_laws.proofs.Fits.{Fits}
use Rattle.queue_laws.proofs.Roles.{role_plain, batcher_rank}
use Rattle.stage_laws.proofs.Plain.{runs_low}
use Rattle.core_sends.proofs.Lone.{lone_in, still}

abbrev Early : Topology → Option Place → Type 0
Early topology p = (s : StageNo) → p ≡ Some (Waiting s) → is_batcher (spec_of topology s) ≡ false

-- a new message waits in the producer that brought it
new_early : (topology : Topology) (before : History) (step : Step) (n : ℕ) → allows topology before step ≡ true → place topology before n ≡ None → Early topology (place topology (step ∷ before) n)
new_early topology before (Accept t records) n h was = λ s e. by s (is_among_next (accepted before) (length records) n) (rw was at e)
  where
    by : (s : StageNo) (b : Bool) → (if b then Some (Waiting t) else None) ≡ Some (Waiting s) → is_batcher (spec_of topology s) ≡ false
    by s true e = let is : t ≡ s = cc in subst (λ x. is_batcher (spec_of topology x) ≡ false) is (role_plain topology t is_producer_role refl (accept_role topology before t records h))
    by s false e = cc
new_early topology before (Late t slot i (Records records)) n h was = λ s e. by s (is_among_next (accepted before) (length records) n) (death topology before t) (rw was at e)
  where
    role : has_role topology t is_producer_role ≡ true
    role = and_left (has_role topology t is_producer_role) _ (late_facts topology before t slot i (Records records) h).fits

    by : (s : StageNo) (b : Bool) (o : Option Why) → (if b then Some (late_place t i o) else None) ≡ Some (Waiting s) → is_batcher (spec_of topology s) ≡ false
    by s true None e = let is : t ≡ s = cc in subst (λ x. is_batcher (spec_of topology x) ≡ false) is (role_plain topology t is_producer_role refl role)
    by s true (Some why) e = cc
    by s false o e = cc
new_early topology before (Done t replies) n h was = λ s e. by s (has_crash replies) (rw was at e)
  where
    by : (s : StageNo) (b : Bool) → ◌≡◌ {A = Option Place} (if b then None else None) (Some (Waiting s)) → is_batcher (spec_of topology s) ≡ false
    by s true e = cc
    by s false e = cc
new_early topology before _ n h was = λ s e. let k = rw was at e in cc

early_move : (topology : Topology) (before : History) (step : Step) (n : ℕ) (p q : Option Place) → place topology before n ≡ p → place topology (step ∷ before) n ≡ q → Fits topology
    → is_legal topology (step ∷ before) ≡ true → Move topology before step p q → Early topology p → Early topology q
early_move topology before step n p q was now fit h stays old = old
early_move topology before step n p q was now fit h (comes t) old =
    λ s e. new_early topology before step n (legal_step topology before step h) was s (now ∙ e)
early_move topology before step n p q was now fit h (comes_lost loss) old = λ s e. cc
early_move topology before step n p q was now fit h (sent_on t u on) old = λ s e. cc
early_move topology before step n p q was now fit h (runs u from) old = λ s e. cc
early_move topology before step n p q was now fit h (waits t) old =
    λ s e. let is : t ≡ s = cc in
    let one : rank topology t ≡ 1 = runs_low topology before n fit (legal_before topology before step h) t was in
    subst (λ x. is_batcher (spec_of topology x) ≡ false) is
    (false_from_ne_true (is_batcher (spec_of topology t)) (λ b. let two : rank topology t ≡ 2 = batcher_rank (spec_of topology t) b in absurd (omega (arith, one, two))))
early_move topology before step n p q was now fit h (is_gathered u) old = λ s e. cc
early_move topology before step n p q was now fit h (joins t b from) old = λ s e. cc
early_move topology before step n p q was now fit h (ends x y final) old = λ s e. by_final y final s e
  where
    by_final : (y : Place) → is_final (Some y) ≡ true → (s : StageNo) → Some y ≡ Some (Waiting s) → is_batcher (spec_of topology s) ≡ false
    by_final (Acked o) f s e = cc
    by_final _ f s e = cc

-- a message waits in a stage of messages
pub waits_early : (topology : Topology) (before : History) (n : ℕ) → Fits topology → is_legal topology before ≡ true → Early topology (place topology before n)
waits_early topology [] n fit h = λ s e. cc
waits_early topology (step ∷ before) n fit h =
    early_move topology before step n (place topology before n) (place topology (step ∷ before) n) refl refl fit h (move_by topology before step n) (waits_early topology before n fit (legal_before topology before step h))

-- and none in a batcher
pub no_message_waits : (topology : Topology) (before : History) (s : StageNo) (n : ℕ) → Fits topology → is_legal topology before ≡ true → is_batcher (spec_of topology s) ≡ true → waits_in s (place topology before n) ≡ false
no_message_waits topology before s n fit h batched = by (place topology before n) refl
  where
    by : (o : Option Place) → place topology before n ≡ o → waits_in s o ≡ false
    by (Some (Waiting t)) e =
        false_from_ne_true (waits_in s (Some (Waiting t))) (λ here. clash (is_batcher (spec_of topology s)) batched (ap (λ x. is_batcher (spec_of topology x)) (same_stage-true s t here) ∙ waits_early topology before n fit h t e))
    by _ e = refl

-- so a batcher's dispatch settles the messages of the batches that it serves alone, and moves no other
pub lone_place : (topology : Topology) (before : History) (s : StageNo) (n : ℕ) → Fits topology → is_legal topology before ≡ true → is_batcher (spec_of topology s) ≡ true
    → place topology (Dispatch s ∷ before) n ≡ option_map (lone_in (alone topology before s)) (place topology before n)
lone_place topology before s n fit h batched =
    still (deliveries topology before s) (lost_over topology before (view_of topology before) s) (alone topology before s) s n (place topology before n) (no_message_waits topology before s n fit h batched)
