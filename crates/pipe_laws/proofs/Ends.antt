-- Where a journal ends, nothing is left.
use Rattle.std.proofs.Common.{◌≡◌, ℕ, zero, suc, ◌≤◌, List, [], ◌∷◌, Bool, true, false, refl, ap, ◌∙◌, Some, None, Option, inl, inr, arith}
use Rattle.std.specs.Prelude.{if◌then◌else◌, not, ◌&&◌, ◌||◌, is_some, cond, ◌⊎◌}
use Rattle.std.specs.List.{list_all}
use Rattle.std.proofs.lemmas.Bool.{cases_eq}
use Rattle.pipe_types.specs.declared.numbers.StageNo.{StageNo}
use Rattle.pipe_types.specs.declared.topology.Topology.{Topology}
use Rattle.pipe_types.specs.declared.topology.StageSpec.{StageSpec}
use Rattle.pipe_types.specs.declared.message.Why.{Why}
use Rattle.pipe_types.specs.declared.message.Why.TheVariants.{Limit}
use Rattle.pipe_types.specs.declared.message.Place.{Place}
use Rattle.pipe_types.specs.declared.message.Place.TheVariants.{Waiting, Inbox, Running, Gathered, InBatch, Acked, Lost}
use Rattle.pipe_types.specs.declared.step.Step.{Step}
use Rattle.pipe_types.specs.declared.step.Step.TheVariants.{Ask, Fetch, Accept, Quiet, SourceEnd, Dispatch, Take, Done, Gather, Close, Wrote, Child, ChildEnd, Kill, Late, Restart, Tick, Drain, Halt, Refuse}
use Rattle.pipe_types.specs.Numbers.{same_stage}
use Rattle.pipe_types.specs.Stages.{spec_in}
use Rattle.pipe_model.specs.History.{History, accepted}
use Rattle.pipe_model.specs.Batches.{Batch, BatchPlace, AtBatcher, Sent, Dropped, Leg, is_leg_open}
use Rattle.pipe_model.specs.Lives.{is_live, is_alive, death, death_after, reason_in, all_live, kill_set}
use Rattle.pipe_model.specs.Flow.{place, batch}
use Rattle.pipe_model.specs.Legal.{is_legal, allows, happened, is_halt, is_late, is_drain}
use Rattle.pipe_model.specs.Moves.{is_final, is_drained, jobs_out, numbers_to}
use Rattle.pipe_model.specs.Claims.{LeavesNothing, has_live_leg, batch_in_progress, is_held_at}
use Rattle.pipe_laws.proofs.Tests.{clash, and_left, and_right, same_stage-true}
use Rattle.pipe_laws.proofs.Allowed.{legal_before, legal_step}
use Rattle.pipe_laws.proofs.Held.{killed_dead}
use Rattle.pipe_laws.proofs.Progress.{held_at}
use Rattle.pipe_laws.proofs.Accepted.{accepted_placed}

-- A halt kills every live stage

all_live_reason : (live : StageNo → Bool) (specs : List StageSpec) (s : StageNo) → live s ≡ true → is_some (spec_in specs s) ≡ true → is_some (reason_in (all_live live specs) s) ≡ true
all_live_reason live [] s h found = found
all_live_reason live (spec ∷ specs) s h found =
    either (same_stage spec.no s) refl (live spec.no) refl found (all_live_reason live specs s h)
  where
    either : (a : Bool) → same_stage spec.no s ≡ a → (b : Bool) → live spec.no ≡ b → is_some (cond a (Some spec) (spec_in specs s)) ≡ true → (is_some (spec_in specs s) ≡ true → is_some (reason_in (all_live live specs) s) ≡ true) → is_some (reason_in (if b then record { stage = spec.no; why = Limit } ∷ all_live live specs else all_live live specs) s) ≡ true
    either true ea true eb found rest = rw ea refl
    either true ea false eb found rest = clash (live spec.no) (ap live (same_stage-true spec.no s ea) ∙ h) eb
    either false ea true eb found rest = rw ea (rest found)
    either false ea false eb found rest = rest found

halt_kills : (topology : Topology) (before : History) (s : StageNo) → is_live topology (Halt ∷ before) s ≡ false
halt_kills topology before s = either (is_live topology before s) refl
  where
    by_reason : (o : Option Why) → reason_in (kill_set topology before Halt) s ≡ o → is_some o ≡ true → is_live topology (Halt ∷ before) s ≡ false
    by_reason (Some w) e h = killed_dead topology (reason_in (kill_set topology before Halt) s) w (death topology before s) s e
    by_reason None e h = cc

    still_dead : (o : Option Why) → is_alive topology (death topology before s) s ≡ false → is_alive topology (death_after o false (death topology before s)) s ≡ false
    still_dead None e = e
    still_dead (Some w) e = killed_dead topology (Some w) w (death topology before s) s refl

    either : (b : Bool) → is_live topology before s ≡ b → is_live topology (Halt ∷ before) s ≡ false
    either true e =
        by_reason (reason_in (kill_set topology before Halt) s) refl
        (all_live_reason (is_live topology before) topology.stages s e (and_left (is_some (spec_in topology.stages s)) _ e))
    either false e = still_dead (reason_in (kill_set topology before Halt) s) e

-- after a halt only late answers come
late_only : (topology : Topology) (before : History) (step : Step) → happened is_halt before ≡ true → allows topology before step ≡ true → is_late step ≡ true
late_only topology before step halted h = by_test (happened is_halt before) halted (and_left (not (happened is_halt before) || is_late step) _ h)
  where
    by_test : (b : Bool) → b ≡ true → (not b || is_late step) ≡ true → is_late step ≡ true
    by_test true e k = k
    by_test false e k = cc

-- after a halt no stage is live
pub halted_dead : (topology : Topology) (before : History) (s : StageNo) → is_legal topology before ≡ true → happened is_halt before ≡ true → is_live topology before s ≡ false
halted_dead topology [] s h halted = cc
halted_dead topology (Halt ∷ before) s h halted = halt_kills topology before s
halted_dead topology (Late t slot i answer ∷ before) s h halted = halted_dead topology before s (legal_before topology before (Late t slot i answer) h) halted
halted_dead topology (Ask u n ∷ before) s h halted = let x : is_late (Ask u n) ≡ true = late_only topology before (Ask u n) halted (legal_step topology before (Ask u n) h) in cc
halted_dead topology (Fetch t n ∷ before) s h halted = let x : is_late (Fetch t n) ≡ true = late_only topology before (Fetch t n) halted (legal_step topology before (Fetch t n) h) in cc
halted_dead topology (Accept t r ∷ before) s h halted = let x : is_late (Accept t r) ≡ true = late_only topology before (Accept t r) halted (legal_step topology before (Accept t r) h) in cc
halted_dead topology (Quiet t ∷ before) s h halted = let x : is_late (Quiet t) ≡ true = late_only topology before (Quiet t) halted (legal_step topology before (Quiet t) h) in cc
halted_dead topology (SourceEnd t how ∷ before) s h halted = let x : is_late (SourceEnd t how) ≡ true = late_only topology before (SourceEnd t how) halted (legal_step topology before (SourceEnd t how) h) in cc
halted_dead topology (Dispatch t ∷ before) s h halted = let x : is_late (Dispatch t) ≡ true = late_only topology before (Dispatch t) halted (legal_step topology before (Dispatch t) h) in cc
halted_dead topology (Take t u k ∷ before) s h halted = let x : is_late (Take t u k) ≡ true = late_only topology before (Take t u k) halted (legal_step topology before (Take t u k) h) in cc
halted_dead topology (Done t r ∷ before) s h halted = let x : is_late (Done t r) ≡ true = late_only topology before (Done t r) halted (legal_step topology before (Done t r) h) in cc
halted_dead topology (Gather t m ∷ before) s h halted = let x : is_late (Gather t m) ≡ true = late_only topology before (Gather t m) halted (legal_step topology before (Gather t m) h) in cc
halted_dead topology (Close t f tr ∷ before) s h halted = let x : is_late (Close t f tr) ≡ true = late_only topology before (Close t f tr) halted (legal_step topology before (Close t f tr) h) in cc
halted_dead topology (Wrote t b e ∷ before) s h halted = let x : is_late (Wrote t b e) ≡ true = late_only topology before (Wrote t b e) halted (legal_step topology before (Wrote t b e) h) in cc
halted_dead topology (Child t m k ∷ before) s h halted = let x : is_late (Child t m k) ≡ true = late_only topology before (Child t m k) halted (legal_step topology before (Child t m k) h) in cc
halted_dead topology (ChildEnd t k r ∷ before) s h halted = let x : is_late (ChildEnd t k r) ≡ true = late_only topology before (ChildEnd t k r) halted (legal_step topology before (ChildEnd t k r) h) in cc
halted_dead topology (Kill t w ∷ before) s h halted = let x : is_late (Kill t w) ≡ true = late_only topology before (Kill t w) halted (legal_step topology before (Kill t w) h) in cc
halted_dead topology (Restart t ∷ before) s h halted = let x : is_late (Restart t) ≡ true = late_only topology before (Restart t) halted (legal_step topology before (Restart t) h) in cc
halted_dead topology (Tick t ∷ before) s h halted = let x : is_late (Tick t) ≡ true = late_only topology before (Tick t) halted (legal_step topology before (Tick t) h) in cc
halted_dead topology (Drain c ∷ before) s h halted = let x : is_late (Drain c) ≡ true = late_only topology before (Drain c) halted (legal_step topology before (Drain c) h) in cc
halted_dead topology (Refuse l ∷ before) s h halted = let x : is_late (Refuse l) ≡ true = late_only topology before (Refuse l) halted (legal_step topology before (Refuse l) h) in cc

-- what no live stage holds is final
dead_final : (live : StageNo → Bool) (batch : ℕ → Option Batch) → ((s : StageNo) → live s ≡ false) → (p : Option Place) → is_held_at live batch p ≡ true → is_final p ≡ true
dead_final live batch dead None h = h
dead_final live batch dead (Some (Waiting s)) h = clash (live s) h (dead s)
dead_final live batch dead (Some (Inbox u)) h = clash (live u.consumer) h (dead u.consumer)
dead_final live batch dead (Some (Running s)) h = clash (live s) h (dead s)
dead_final live batch dead (Some (Gathered s)) h = clash (live s) h (dead s)
dead_final live batch dead (Some (Acked o)) h = refl
dead_final live batch dead (Some (Lost l)) h = refl
dead_final live batch dead (Some (InBatch b)) h = clash (batch_in_progress live (batch b.0)) h (none (batch b.0))
  where
    no_leg : (legs : List Leg) → has_live_leg live legs ≡ false
    no_leg [] = refl
    no_leg (leg ∷ legs) = by_leg (is_leg_open leg.place) (live leg.sub.consumer) (dead leg.sub.consumer) (no_leg legs)
      where
        by_leg : (a b : Bool) → b ≡ false → has_live_leg live legs ≡ false → ((a && b) || has_live_leg live legs) ≡ false
        by_leg true true e rest = cc
        by_leg true false e rest = rest
        by_leg false b e rest = rest

    by_place : (numbers : List ℕ) (p : BatchPlace) → batch_in_progress live (Some (record { numbers = numbers; place = p })) ≡ false
    by_place numbers (AtBatcher s) = dead s
    by_place numbers (Sent legs) = no_leg legs
    by_place numbers (Dropped l) = refl

    none : (o : Option Batch) → batch_in_progress live o ≡ false
    none None = refl
    none (Some x) = by_place x.numbers x.place

-- what holds of all numbers to n
to_each : (test : ℕ → Bool) (n k : ℕ) → list_all test (numbers_to n) ≡ true → 1 ≤ k → k ≤ n → test k ≡ true
to_each test zero k h low high = absurd (omega arith)
to_each test (suc n) k h low high = either (cases_eq k (suc n)) (λ less. to_each test n k (and_right (test (suc n)) _ h) low less)
  where
    either : (k ≡ suc n) ⊎ (k ≡ suc n → ⊥) → (k ≤ n → test k ≡ true) → test k ≡ true
    either (inl e) rest = ap test e ∙ and_left (test (suc n)) _ h
    either (inr other) rest = rest (omega arith)

-- where the journal is drained or halted, every accepted message is acknowledged or lost
pub leaves_nothing : (topology : Topology) (before : History) → is_legal topology before ≡ true → LeavesNothing topology before
leaves_nothing topology before h ended n low high = either (is_drained topology before) refl ended
  where
    halted : happened is_halt before ≡ true → is_final (place topology before n) ≡ true
    halted e =
        dead_final (is_live topology before) (batch topology before) (λ s. halted_dead topology before s h e) (place topology before n)
        (held_at topology before n h (accepted_placed topology before n low high))

    either : (b : Bool) → is_drained topology before ≡ b → (b || happened is_halt before) ≡ true → is_final (place topology before n) ≡ true
    either true e k =
        to_each (λ m. is_final (place topology before m)) (accepted before) n
        (and_right (not (jobs_out topology before)) _ (and_right (happened is_drain before) _ e)) low high
    either false e k = halted k
