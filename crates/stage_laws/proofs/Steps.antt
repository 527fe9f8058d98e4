-- What runs in each stage after any step.
use Rattle.std.proofs.Common.{◌≡◌, ℕ, List, [], ◌∷◌, ◌++◌, length, take, Bool, true, false, refl, ap, sym, ◌∙◌, subst, Some, None, Option}
use Rattle.std.specs.Prelude.{if◌then◌else◌, ◌&&◌, not, option_map}
use Rattle.pipe_types.specs.declared.numbers.SubNo.{SubNo}
use Rattle.pipe_types.specs.declared.numbers.StageNo.{StageNo}
use Rattle.pipe_types.specs.declared.topology.Topology.{Topology}
use Rattle.pipe_types.specs.declared.topology.StageSpec.{StageSpec}
use Rattle.pipe_types.specs.declared.topology.Role.{Role}
use Rattle.pipe_types.specs.declared.topology.Role.TheVariants.{Processor, BatchProcessor}
use Rattle.pipe_types.specs.declared.message.Why.{Why}
use Rattle.pipe_types.specs.declared.message.Reply.{Reply}
use Rattle.pipe_types.specs.declared.message.BatchEnd.{BatchEnd}
use Rattle.pipe_types.specs.declared.message.Place.{Place}
use Rattle.pipe_types.specs.declared.step.LateAnswer.TheVariants.{Records}
use Rattle.pipe_types.specs.declared.step.Step.{Step}
use Rattle.pipe_types.specs.declared.step.Step.TheVariants.{Accept, Dispatch, Take, Done, Gather, Close, Wrote, Child, ChildEnd, Kill, Late, Halt}
use Rattle.pipe_types.specs.Numbers.{same_stage}
use Rattle.pipe_types.specs.Stages.{spec_of}
use Rattle.pipe_model.specs.History.{History, accepted}
use Rattle.pipe_model.specs.Posts.{in_slot}
use Rattle.pipe_model.specs.Lives.{death}
use Rattle.pipe_model.specs.Content.{has_crash, is_among_next}
use Rattle.pipe_model.specs.Flow.{place, batch, view_of, inbox, runs_in, among, units_on, accepted_to, late_place, by_batch, done, has_batchers_in, chunk_by}
use Rattle.pipe_model.specs.Legal.{is_legal, has_role, takes_role, is_processor_role}
use Rattle.pipe_model.specs.Standing.{running}
use Rattle.pipe_laws.proofs.Tests.{clash, same_stage-true}
use Rattle.pipe_laws.proofs.Levels.{rank, rank_in, rank_of}
use Rattle.pipe_laws.proofs.Allowed.{legal_before, legal_step, take_facts}
use Rattle.queue_laws.proofs.Fits.{Fits}
use Rattle.queue_laws.proofs.Unseen.{by_batch_unseen, gathered_unseen}
use Rattle.stage_laws.specs.Running.{running_after, stops_running, without_slot}
use Rattle.stage_laws.proofs.Plain.{nothing_runs}
use Rattle.stage_laws.proofs.Runs.{runs_still, runs_accepted, runs_dispatched, runs_taken, runs_taken_else, runs_killed, runs_halted, runs_done, runs_done_else, runs_joined}
use Rattle.stage_laws.proofs.Supervised.{runs_started, runs_started_else, runs_ended, runs_ended_else}

-- a stage that takes and is no processor is at level 4
takes_batches : (topology : Topology) (s : StageNo) → has_role topology s takes_role ≡ true → has_role topology s is_processor_role ≡ false → rank topology s ≡ 1 → ⊥
takes_batches topology s takes other one = by_spec (spec_of topology s) refl
  where
    by_role : (r : Role) → takes_role r ≡ true → is_processor_role r ≡ false → rank_of r ≡ 1 → ⊥
    by_role Processor h k e = let x : true ≡ false = k in cc
    by_role BatchProcessor h k e = let x : 3 ≡ 1 = e in cc
    by_role _ h k e = let x : false ≡ true = h in cc

    by_spec : (o : Option StageSpec) → spec_of topology s ≡ o → ⊥
    by_spec None e = let none : has_role topology s takes_role ≡ false = rw e refl in clash (has_role topology s takes_role) takes none
    by_spec (Some spec) e =
        let yes : has_role topology s takes_role ≡ takes_role spec.role = rw e refl in
        let no : has_role topology s is_processor_role ≡ is_processor_role spec.role = rw e refl in
        by_role spec.role (sym yes ∙ takes) (sym no ∙ other) (sym (ap rank_in e) ∙ one)

runs_untouched : (topology : Topology) (before : History) (s : StageNo) (u : SubNo) (k : ℕ) → Fits topology → is_legal topology (Take s u k ∷ before) ≡ true → has_role topology s is_processor_role ≡ false → running topology (Take s u k ∷ before) s ≡ running topology before s
runs_untouched topology before s u k fit h other =
    nothing_runs topology (Take s u k ∷ before) s fit h low ∙ sym (nothing_runs topology before s fit (legal_before topology before (Take s u k) h) low)
  where
    low : rank topology s ≡ 1 → ⊥
    low = takes_batches topology s (take_facts topology before s u k (legal_step topology before (Take s u k) h)).role other

runs_crashed : (topology : Topology) (before : History) (s : StageNo) (replies : List Reply) → has_crash replies ≡ true → running topology (Done s replies ∷ before) s ≡ running topology before s
runs_crashed topology before s replies crash =
    runs_still topology before (Done s replies) s refl
    (λ n. ap (λ b. runs_in s (if b then place topology before n else option_map (done (has_batchers_in (spec_of topology s)) (chunk_by (view_of topology before) s) replies s n) (place topology before n))) crash)

runs_late : (topology : Topology) (before : History) (t s : StageNo) (slot i : ℕ) (records : List (List ℕ)) → running topology (Late t slot i (Records records) ∷ before) s ≡ running topology before s
runs_late topology before t s slot i records = runs_still topology before (Late t slot i (Records records)) s refl (λ n. by n (place topology before n))
  where
    lost : (o : Option Why) → runs_in s (Some (late_place t i o)) ≡ false
    lost None = refl
    lost (Some why) = refl

    by : (n : ℕ) (p : Option Place) → runs_in s (accepted_to (accepted before) (length records) (late_place t i (death topology before t)) n p) ≡ runs_in s p
    by n (Some p) = refl
    by n None = either (is_among_next (accepted before) (length records) n)
      where
        either : (b : Bool) → runs_in s (if b then Some (late_place t i (death topology before t)) else None) ≡ false
        either true = lost (death topology before t)
        either false = refl

runs_wrote : (topology : Topology) (before : History) (t s : StageNo) (bytes : ℕ) (end : BatchEnd) → running topology (Wrote t bytes end ∷ before) s ≡ running topology before s
runs_wrote topology before t s bytes end = runs_still topology before (Wrote t bytes end) s refl (λ n. by n (place topology before n))
  where
    by : (n : ℕ) (p : Option Place) → runs_in s (option_map (by_batch (batch topology (Wrote t bytes end ∷ before)) n) p) ≡ runs_in s p
    by n None = refl
    by n (Some p) = by_batch_unseen (runs_in s) (λ b. refl) (λ o. refl) (λ l. refl) (batch topology (Wrote t bytes end ∷ before)) n p

-- the law
pub runs_step : (topology : Topology) (before : History) (step : Step) (s : StageNo) → Fits topology → is_legal topology (step ∷ before) ≡ true → running topology (step ∷ before) s ≡ running_after topology before step s (running topology before s)
runs_step topology before (Accept t records) s fit h = runs_accepted topology before t s records
runs_step topology before (Late t slot i (Records records)) s fit h = runs_late topology before t s slot i records
runs_step topology before (Dispatch t) s fit h = runs_dispatched topology before t s fit (legal_before topology before (Dispatch t) h)
runs_step topology before (Gather t m) s fit h = runs_still topology before (Gather t m) s refl (λ n. gathered_unseen (runs_in s) (λ u. refl) (λ x. refl) t m.0 n (place topology before n))
runs_step topology before (Close t first trigger) s fit h = runs_joined topology before t s first trigger
runs_step topology before (Wrote t bytes end) s fit h = runs_wrote topology before t s bytes end
runs_step topology before (Kill t why) s fit h = runs_killed topology before t s why
runs_step topology before Halt s fit h = runs_halted topology before s
runs_step topology before (Take t u k) s fit h = either (same_stage s t) refl
  where
    here : (b : Bool) → has_role topology t is_processor_role ≡ b → running topology (Take t u k ∷ before) t ≡ (if b then take k (units_on u (inbox topology before t)) else running topology before t)
    here true role = runs_taken topology before t u k fit (legal_before topology before (Take t u k) h) role (legal_step topology before (Take t u k) h)
    here false role = runs_untouched topology before t u k fit h role

    either : (b : Bool) → same_stage s t ≡ b → running topology (Take t u k ∷ before) s ≡ (if b && has_role topology t is_processor_role then take k (units_on u (inbox topology before t)) else running topology before s)
    either true e = subst (λ x. running topology (Take t u k ∷ before) x ≡ (if has_role topology t is_processor_role then take k (units_on u (inbox topology before t)) else running topology before x)) (sym (same_stage-true s t e)) (here (has_role topology t is_processor_role) refl)
    either false e = runs_taken_else topology before t s u k e
runs_step topology before (Done t replies) s fit h = either (same_stage s t) refl
  where
    here : (b : Bool) → has_crash replies ≡ b → running topology (Done t replies ∷ before) t ≡ (if not b then [] else running topology before t)
    here true crash = runs_crashed topology before t replies crash
    here false safe = runs_done topology before t replies fit h safe

    either : (b : Bool) → same_stage s t ≡ b → running topology (Done t replies ∷ before) s ≡ (if b && not (has_crash replies) then [] else running topology before s)
    either true e = subst (λ x. running topology (Done t replies ∷ before) x ≡ (if not (has_crash replies) then [] else running topology before x)) (sym (same_stage-true s t e)) (here (has_crash replies) refl)
    either false e = runs_done_else topology before t s replies e
runs_step topology before (Child t m slot) s fit h = either (same_stage s t) refl
  where
    either : (b : Bool) → same_stage s t ≡ b → running topology (Child t m slot ∷ before) s ≡ (if b && not (among (running topology before s) m.0) then running topology before s ++ m.0 ∷ [] else running topology before s)
    either true e = subst (λ x. running topology (Child t m slot ∷ before) x ≡ (if not (among (running topology before x) m.0) then running topology before x ++ m.0 ∷ [] else running topology before x)) (sym (same_stage-true s t e)) (runs_started topology before t m slot fit h)
    either false e = runs_started_else topology before t s m slot e
runs_step topology before (ChildEnd t slot reply) s fit h = either (same_stage s t) refl
  where
    either : (b : Bool) → same_stage s t ≡ b → running topology (ChildEnd t slot reply ∷ before) s ≡ (if b && stops_running topology before t slot reply then without_slot (in_slot before t slot) (running topology before s) else running topology before s)
    either true e = subst (λ x. running topology (ChildEnd t slot reply ∷ before) x ≡ (if stops_running topology before t slot reply then without_slot (in_slot before t slot) (running topology before x) else running topology before x)) (sym (same_stage-true s t e)) (runs_ended topology before t slot reply)
    either false e = runs_ended_else topology before t s slot reply e
runs_step topology before step s fit h = refl
