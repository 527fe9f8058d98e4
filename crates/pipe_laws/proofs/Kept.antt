-- What a stage works on stays so until its answer or its end.
use Rattle.std.proofs.Common.{◌≡◌, ℕ, ◌+◌, ◌≤◌, List, [], ◌∷◌, Bool, true, false, refl, ap, sym, ◌∙◌, Some, None, Option, arith}
use Rattle.std.specs.Prelude.{if◌then◌else◌, ◌==◌, ◌||◌, option_map, is_some}
use Rattle.std.proofs.lemmas.Bool.{eqb-true}
use Rattle.pipe_types.specs.declared.numbers.SubNo.{SubNo}
use Rattle.pipe_types.specs.declared.numbers.StageNo.{StageNo}
use Rattle.pipe_types.specs.declared.topology.Topology.{Topology}
use Rattle.pipe_types.specs.declared.message.Place.{Place}
use Rattle.pipe_types.specs.declared.message.Place.TheVariants.{Running, Gathered, Acked}
use Rattle.pipe_types.specs.declared.message.Why.{Why}
use Rattle.pipe_types.specs.declared.message.BatchEnd.TheVariants.{Outcomes}
use Rattle.pipe_types.specs.declared.step.Step.{Step}
use Rattle.pipe_types.specs.declared.step.Step.TheVariants.{Accept, Dispatch, Take, Done, Gather, Close, Wrote, Child, ChildEnd, Kill, Late, Halt}
use Rattle.pipe_types.specs.declared.step.LateAnswer.TheVariants.{Records}
use Rattle.pipe_types.specs.Numbers.{same_stage}
use Rattle.pipe_types.specs.Stages.{spec_of}
use Rattle.pipe_model.specs.History.{History, closed, incarnation}
use Rattle.pipe_model.specs.Content.{has_crash}
use Rattle.pipe_model.specs.Batches.{Batch, BatchPlace, AtBatcher, Sent, Dropped, Leg, on_legs, leg_taken, leg_answered, leg_lost, batch_sent, batch_on_legs, batch_killed}
use Rattle.pipe_model.specs.Lives.{KillSet, reason_in, is_live, is_alive, death, death_after, kill_set}
use Rattle.pipe_model.specs.Flow.{place, view_of, batch, among, runs_in, is_gathered_in, is_batcher, by_batch, killed, lost_with, change_place, new_batch, next_units, closing, answered, reply_to, has_batchers_in, chunk_by}
use Rattle.pipe_model.specs.Moves.{is_final}
use Rattle.pipe_laws.proofs.Tests.{clash, same_stage-true, same_stage-self}
use Rattle.pipe_laws.proofs.Places.{Move, stays, comes, comes_lost, sent_on, runs, waits, is_gathered, joins, ends, move_by, starts}
use Rattle.pipe_laws.proofs.Weights.{taken_legs, taken_legs_other, answered_legs, kept_legs}
use Rattle.pipe_laws.proofs.Held.{killed_dead}
use Rattle.pipe_laws.proofs.Settled.{batch_closed}
use Rattle.pipe_model.specs.Standing.{leg_works, leg_works_in, works_at, works}

-- the step answers work of the stage
abbrev pub ends_work : Step → StageNo → Bool
ends_work (Done s replies) t = same_stage s t
ends_work (Wrote s bytes end) t = same_stage s t
ends_work (ChildEnd s slot reply) t = same_stage s t
ends_work _ t = false

pub runs_here : (s : StageNo) (p : Option Place) → runs_in s p ≡ true → p ≡ Some (Running s)
runs_here s (Some (Running t)) h = ap (λ x. Some (Running x)) (sym (same_stage-true s t h))
runs_here s _ h = cc

pub gathered_here : (s : StageNo) (p : Option Place) → is_gathered_in s p ≡ true → p ≡ Some (Gathered s)
gathered_here s (Some (Gathered t)) h = ap (λ x. Some (Gathered x)) (sym (same_stage-true s t h))
gathered_here s _ h = cc

killed_runs : (topology : Topology) (old : Option Why) (set : KillSet) (incarnation : StageNo → ℕ) (after : ℕ → Option Batch) (n : ℕ) (s : StageNo) → is_alive topology (death_after (reason_in set s) false old) s ≡ true → by_batch after n (killed set incarnation (Running s)) ≡ Running s
killed_runs topology old set incarnation after n s live = either (reason_in set s) refl
  where
    either : (why : Option Why) → reason_in set s ≡ why → by_batch after n (lost_with (incarnation s) s why (Running s)) ≡ Running s
    either None e = refl
    either (Some why) e = clash (is_alive topology (death_after (reason_in set s) false old) s) live (killed_dead topology (reason_in set s) why old s e)

-- a message that runs in a stage runs there until the stage's answer or end
pub runs_kept : (topology : Topology) (before : History) (step : Step) (s : StageNo) (n : ℕ) → ends_work step s ≡ false → is_live topology (step ∷ before) s ≡ true → place topology before n ≡ Some (Running s) → place topology (step ∷ before) n ≡ Some (Running s)
runs_kept topology before (Accept t records) s n other live e = rw e refl
runs_kept topology before (Late t slot i (Records records)) s n other live e = rw e refl
runs_kept topology before (Dispatch t) s n other live e = rw e refl
runs_kept topology before (Take t u k) s n other live e = rw e refl
runs_kept topology before (Gather t m) s n other live e = rw e refl
runs_kept topology before (Close t first trigger) s n other live e = rw e refl
runs_kept topology before (Wrote t bytes end) s n other live e = rw e refl
runs_kept topology before (Child t m slot) s n other live e = rw e refl
runs_kept topology before (Done t replies) s n other live e = either (has_crash replies) (place topology before n) _ e (ap (λ b. if b then answered (has_batchers_in (spec_of topology t)) t (reply_to (chunk_by (view_of topology before) t) replies n) else Running s) other)
  where
    either : (b : Bool) (p : Option Place) (move : Place → Place) → p ≡ Some (Running s) → move (Running s) ≡ Running s → (if b then p else option_map move p) ≡ Some (Running s)
    either true p move e keeps = e
    either false p move e keeps = ap (option_map move) e ∙ ap Some keeps
runs_kept topology before (ChildEnd t slot reply) s n other live e = rw (e, other) refl
runs_kept topology before (Kill t why) s n other live e =
    ap (option_map _) e ∙ ap Some (killed_runs topology (death topology before s) (kill_set topology before (Kill t why)) (incarnation before) (batch topology (Kill t why ∷ before)) n s live)
runs_kept topology before Halt s n other live e =
    ap (option_map _) e ∙ ap Some (killed_runs topology (death topology before s) (kill_set topology before Halt) (incarnation before) (batch topology (Halt ∷ before)) n s live)
runs_kept topology before _ s n other live e = e

-- a message runs only where it ran before or the step starts work
pub runs_only : (topology : Topology) (before : History) (step : Step) (s : StageNo) (p q : Option Place) → Move topology before step p q → starts step s ≡ false → runs_in s q ≡ true → runs_in s p ≡ true
runs_only topology before step s p q stays other h = h
runs_only topology before step s p q (comes t) other h = cc
runs_only topology before step s p q (comes_lost loss) other h = cc
runs_only topology before step s p q (sent_on t u on) other h = cc
runs_only topology before step s p q (runs u from) other h =
    clash (starts step u.consumer) from (ap (starts step) (sym (same_stage-true s u.consumer h)) ∙ other)
runs_only topology before step s p q (waits t) other h = cc
runs_only topology before step s p q (is_gathered u) other h = cc
runs_only topology before step s p q (joins t b from) other h = cc
runs_only topology before step s p q (ends x y final) other h = not_final y final h
  where
    not_final : (y : Place) → is_final (Some y) ≡ true → runs_in s (Some y) ≡ true → runs_in s (Some x) ≡ true
    not_final (Acked o) f h = cc
    not_final _ f h = cc

-- the same messages run in a stage where the step neither starts nor ends work there
pub runs_same : (topology : Topology) (before : History) (step : Step) (s : StageNo) (n : ℕ) → starts step s ≡ false → ends_work step s ≡ false → is_live topology (step ∷ before) s ≡ true → runs_in s (place topology (step ∷ before) n) ≡ runs_in s (place topology before n)
runs_same topology before step s n no_start no_end live =
    same_tests (runs_in s (place topology (step ∷ before) n)) (runs_in s (place topology before n))
    (runs_only topology before step s _ _ (move_by topology before step n) no_start)
    (λ h. ap (runs_in s) (runs_kept topology before step s n no_end live (runs_here s (place topology before n) h)) ∙ same_stage-self s)
  where
    same_tests : (a b : Bool) → (a ≡ true → b ≡ true) → (b ≡ true → a ≡ true) → a ≡ b
    same_tests true b f g = sym (f refl)
    same_tests false true f g = g refl
    same_tests false false f g = refl

-- Legs at work

works_mapped : (u : SubNo) (change : BatchPlace → BatchPlace) → ((legs : List Leg) → leg_works u legs ≡ true → works_at u (change (Sent legs)) ≡ true) → (o : Option Batch) → leg_works_in u o ≡ true → leg_works_in u (option_map (λ x. change_place x (change x.place)) o) ≡ true
works_mapped u change keeps None h = h
works_mapped u change keeps (Some x) h = by_place x.place h
  where
    by_place : (p : BatchPlace) → works_at u p ≡ true → works_at u (change p) ≡ true
    by_place (Sent legs) h = keeps legs h
    by_place (AtBatcher s) h = cc
    by_place (Dropped l) h = cc

works_exists : (u : SubNo) (o : Option Batch) → leg_works_in u o ≡ true → is_some o ≡ true
works_exists u None h = h
works_exists u (Some x) h = refl

works_killed : (topology : Topology) (old : Option Why) (set : KillSet) (incarnation : StageNo → ℕ) (u : SubNo) → is_alive topology (death_after (reason_in set u.consumer) false old) u.consumer ≡ true → (legs : List Leg) → leg_works u legs ≡ true → leg_works u (on_legs (λ v. leg_lost (reason_in set v.consumer) (incarnation v.consumer) v) legs) ≡ true
works_killed topology old set incarnation u live legs h = either (reason_in set u.consumer) refl
  where
    either : (why : Option Why) → reason_in set u.consumer ≡ why → leg_works u (on_legs (λ v. leg_lost (reason_in set v.consumer) (incarnation v.consumer) v) legs) ≡ true
    either None e = kept_legs set incarnation u legs e ∙ h
    either (Some why) e = clash (is_alive topology (death_after (reason_in set u.consumer) false old) u.consumer) live (killed_dead topology (reason_in set u.consumer) why old u.consumer e)

pub leg_works_kept : (topology : Topology) (before : History) (step : Step) (u : SubNo) (b : ℕ) → ends_work step u.consumer ≡ false → is_live topology (step ∷ before) u.consumer ≡ true → leg_works_in u (batch topology before b) ≡ true → leg_works_in u (batch topology (step ∷ before) b) ≡ true
leg_works_kept topology before (Close s first trigger) u b other live h =
    either (closing before (view_of topology before) s first.0) (b == closed before + 1) refl (batch_closed topology before b (works_exists u (batch topology before b) h))
  where
    either : (numbers : List ℕ) (t : Bool) → (b == closed before + 1) ≡ t → b ≤ closed before → leg_works_in u (new_batch t numbers s (batch topology before b)) ≡ true
    either numbers true e below = absurd (let is : b ≡ closed before + 1 = eqb-true b _ e in omega arith)
    either numbers false e below = h
leg_works_kept topology before (Dispatch s) u b other live h = works_mapped u (batch_sent s _ _) (sent_works _ _) (batch topology before b) h
  where
    sent_works : (is_alone : Bool) (subs : List SubNo) (legs : List Leg) → leg_works u legs ≡ true → works_at u (batch_sent s is_alone subs (Sent legs)) ≡ true
    sent_works is_alone [] legs h = h
    sent_works is_alone (v ∷ subs) legs h = h
leg_works_kept topology before (Take s v k) u b other live h =
    either (among (next_units topology (view_of topology before) s v k) b) (batch topology before b) h
  where
    taken : (legs : List Leg) → leg_works u legs ≡ true → leg_works u (on_legs (leg_taken s) legs) ≡ true
    taken legs h = by_stage (same_stage s u.consumer) refl
      where
        or_left : (a c : Bool) → a ≡ true → (a || c) ≡ true
        or_left true c e = refl
        or_left false c e = cc

        by_stage : (t : Bool) → same_stage s u.consumer ≡ t → leg_works u (on_legs (leg_taken s) legs) ≡ true
        by_stage true e = (taken_legs s u legs e).1 ∙ or_left (leg_works u legs) _ h
        by_stage false e = (taken_legs_other s u legs e).1 ∙ h

    either : (t : Bool) (o : Option Batch) → leg_works_in u o ≡ true → leg_works_in u (if t then option_map (λ x. change_place x (batch_on_legs (leg_taken s) x.place)) o else o) ≡ true
    either true o h = works_mapped u (batch_on_legs (leg_taken s)) taken o h
    either false o h = h
leg_works_kept topology before (Wrote s bytes (Outcomes outcomes)) u b other live h =
    works_mapped u (batch_on_legs (leg_answered s outcomes)) (λ legs h. (answered_legs s outcomes u legs).1 ∙ (ap (λ t. if t then false else leg_works u legs) other ∙ h)) (batch topology before b) h
leg_works_kept topology before (Kill s why) u b other live h =
    works_mapped u (batch_killed (kill_set topology before (Kill s why)) (incarnation before)) (works_killed topology (death topology before u.consumer) (kill_set topology before (Kill s why)) (incarnation before) u live) (batch topology before b) h
leg_works_kept topology before Halt u b other live h =
    works_mapped u (batch_killed (kill_set topology before Halt) (incarnation before)) (works_killed topology (death topology before u.consumer) (kill_set topology before Halt) (incarnation before) u live) (batch topology before b) h
leg_works_kept topology before _ u b other live h = h

-- what a consumer works on it works on until its answer or its end
pub works_kept : (topology : Topology) (before : History) (step : Step) (u : SubNo) (n : ℕ) → ends_work step u.consumer ≡ false → is_live topology (step ∷ before) u.consumer ≡ true → works topology before u n ≡ true → works topology (step ∷ before) u n ≡ true
works_kept topology before step u n other live h = either (is_batcher (spec_of topology u.producer)) h
  where
    either : (b : Bool) → (if b then leg_works_in u (batch topology before n) else runs_in u.consumer (place topology before n)) ≡ true → (if b then leg_works_in u (batch topology (step ∷ before) n) else runs_in u.consumer (place topology (step ∷ before) n)) ≡ true
    either true h = leg_works_kept topology before step u n other live h
    either false h =
        ap (runs_in u.consumer) (runs_kept topology before step u.consumer n other live (runs_here u.consumer (place topology before n) h)) ∙ same_stage-self u.consumer
