-- No batch waits in a stage of messages.
use Rattle.std.proofs.Common.{◌≡◌, ℕ, ◌+◌, List, [], ◌∷◌, Bool, true, false, refl, ap, sym, ◌∙◌, Some, None, Option}
use Rattle.std.specs.Prelude.{if◌then◌else◌, ◌==◌, ◌&&◌, option_map}
use Rattle.pipe_types.specs.declared.numbers.StageNo.{StageNo}
use Rattle.pipe_types.specs.declared.numbers.SubNo.{SubNo}
use Rattle.pipe_types.specs.declared.topology.Topology.{Topology}
use Rattle.pipe_types.specs.declared.message.BatchEnd.TheVariants.{Outcomes}
use Rattle.pipe_types.specs.declared.step.Step.TheVariants.{Dispatch, Take, Close, Wrote, Kill, Halt}
use Rattle.pipe_types.specs.Numbers.{same_stage}
use Rattle.pipe_types.specs.Stages.{spec_of}
use Rattle.pipe_model.specs.Batches.{Batch, BatchPlace, AtBatcher, Sent, Dropped, batch_sent, leg_taken, leg_answered, batch_on_legs}
use Rattle.pipe_model.specs.History.{History, closed, incarnation}
use Rattle.pipe_model.specs.Lives.{kill_set}
use Rattle.pipe_model.specs.Legal.{is_legal}
use Rattle.pipe_model.specs.Flow.{batch, view_of, among, closing, new_batch, next_units, change_place, deliveries, alone, subs_of, is_batcher, batch_waits_in, at_batcher}
use Rattle.pipe_laws.proofs.Allowed.{legal_before, legal_step}
use Rattle.pipe_laws.proofs.Tests.{clash, same_stage-true}
use Rattle.queue_laws.proofs.Roles.{role_batched}
use Rattle.queue_laws.proofs.Waits.{batch_waits_dispatched, batch_waits_dispatched_other, batch_waits_legs, batch_waits_killed}
use Rattle.stage_laws.proofs.Bounds.{close_facts}

none_and : (a b : Bool) → a ≡ false → (a && b) ≡ false
none_and a b e = ap (λ x. x && b) e

pub none_waits : (topology : Topology) (before : History) (s : StageNo) (b : ℕ) → is_legal topology before ≡ true → is_batcher (spec_of topology s) ≡ false
    → batch_waits_in s (batch topology before b) ≡ false
none_waits topology [] s b h plain = refl
none_waits topology (Close t first trigger ∷ before) s b h plain =
    either (b == closed before + 1) (same_stage s t) refl (none_waits topology before s b (legal_before topology before (Close t first trigger) h) plain)
  where
    either : (made same : Bool) → same_stage s t ≡ same → batch_waits_in s (batch topology before b) ≡ false
        → batch_waits_in s (new_batch made (closing before (view_of topology before) t first.0) t (batch topology before b)) ≡ false
    either false same e rest = rest
    either true false e rest = e
    either true true e rest =
        let role : is_batcher (spec_of topology t) ≡ true = role_batched topology t (close_facts topology before t first trigger (legal_step topology before (Close t first trigger) h)).role in
        clash (is_batcher (spec_of topology s)) (ap (λ x. is_batcher (spec_of topology x)) (same_stage-true s t e) ∙ role) plain
none_waits topology (Dispatch t ∷ before) s b h plain =
    either (same_stage s t) refl (none_waits topology before s b (legal_before topology before (Dispatch t) h) plain)
  where
    either : (same : Bool) → same_stage s t ≡ same → batch_waits_in s (batch topology before b) ≡ false
        → batch_waits_in s (option_map (λ x. change_place x (batch_sent t (among (alone topology before t) b) (subs_of (deliveries topology before t) b) x.place)) (batch topology before b)) ≡ false
    either false e rest = batch_waits_dispatched_other (among (alone topology before t) b) (subs_of (deliveries topology before t) b) t s (batch topology before b) e ∙ rest
    either true e rest =
        ap (λ w. batch_waits_in w (option_map (λ x. change_place x (batch_sent t (among (alone topology before t) b) (subs_of (deliveries topology before t) b) x.place)) (batch topology before b))) (same_stage-true s t e)
        ∙ (batch_waits_dispatched (among (alone topology before t) b) (subs_of (deliveries topology before t) b) t (batch topology before b)
        ∙ none_and (batch_waits_in t (batch topology before b)) _ (ap (λ w. batch_waits_in w (batch topology before b)) (sym (same_stage-true s t e)) ∙ rest))
none_waits topology (Take t u k ∷ before) s b h plain =
    either (among (next_units topology (view_of topology before) t u k) b) (none_waits topology before s b (legal_before topology before (Take t u k) h) plain)
  where
    either : (is : Bool) → batch_waits_in s (batch topology before b) ≡ false
        → batch_waits_in s (if is then option_map (λ x. change_place x (batch_on_legs (leg_taken t) x.place)) (batch topology before b) else batch topology before b) ≡ false
    either true rest = batch_waits_legs (leg_taken t) s (batch topology before b) ∙ rest
    either false rest = rest
none_waits topology (Wrote t bytes (Outcomes outcomes) ∷ before) s b h plain =
    batch_waits_legs (leg_answered t outcomes) s (batch topology before b) ∙ none_waits topology before s b (legal_before topology before (Wrote t bytes (Outcomes outcomes)) h) plain
none_waits topology (Kill t why ∷ before) s b h plain =
    batch_waits_killed (kill_set topology before (Kill t why)) (incarnation before) s (batch topology before b)
    ∙ none_and (batch_waits_in s (batch topology before b)) _ (none_waits topology before s b (legal_before topology before (Kill t why) h) plain)
none_waits topology (Halt ∷ before) s b h plain =
    batch_waits_killed (kill_set topology before Halt) (incarnation before) s (batch topology before b)
    ∙ none_and (batch_waits_in s (batch topology before b)) _ (none_waits topology before s b (legal_before topology before Halt h) plain)
none_waits topology (step ∷ before) s b h plain = none_waits topology before s b (legal_before topology before step h) plain

unsent_place : (s : StageNo) (lone : Bool) (subs : List SubNo) (p : BatchPlace) → at_batcher s p ≡ false → batch_sent s lone subs p ≡ p
unsent_place s lone [] (AtBatcher t) h = ap (λ c. if lone && c then Sent [] else AtBatcher t) h ∙ none lone
  where
    none : (c : Bool) → (if c && false then Sent [] else AtBatcher t) ≡ AtBatcher t
    none true = refl
    none false = refl
unsent_place s lone [] (Sent legs) h = refl
unsent_place s lone [] (Dropped loss) h = refl
unsent_place s lone (u ∷ subs) (AtBatcher t) h = rw h refl
unsent_place s lone (u ∷ subs) (Sent legs) h = refl
unsent_place s lone (u ∷ subs) (Dropped loss) h = refl

unsent_batch : (s : StageNo) (lone : Bool) (subs : List SubNo) (o : Option Batch) → batch_waits_in s o ≡ false → option_map (λ x. change_place x (batch_sent s lone subs x.place)) o ≡ o
unsent_batch s lone subs None h = refl
unsent_batch s lone subs (Some x) h = ap (λ p. Some (record { numbers = x.numbers; place = p })) (unsent_place s lone subs x.place h)

-- a dispatch of a stage of messages changes no batch
pub same_batch : (topology : Topology) (before : History) (s : StageNo) (b : ℕ) → is_legal topology before ≡ true → is_batcher (spec_of topology s) ≡ false
    → batch topology (Dispatch s ∷ before) b ≡ batch topology before b
same_batch topology before s b h plain = unsent_batch s (among (alone topology before s) b) (subs_of (deliveries topology before s) b) (batch topology before b) (none_waits topology before s b h plain)
