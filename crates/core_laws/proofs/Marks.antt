-- The mark of a message is the step that settled it.
use Rattle.std.proofs.Common.{◌≡◌, ℕ, [], ◌∷◌, length, Bool, true, false, refl, ap, sym, ◌∙◌, Some, None, Option}
use Rattle.std.specs.Prelude.{if◌then◌else◌, ◌&&◌, ◌==◌, ◌+◌, option_map, List}
use Rattle.pipe_types.specs.declared.numbers.StageNo.{StageNo}
use Rattle.pipe_types.specs.declared.topology.Topology.{Topology}
use Rattle.pipe_types.specs.declared.message.Place.{Place}
use Rattle.pipe_types.specs.declared.message.Place.TheVariants.{Waiting, Inbox, Running, Gathered, InBatch}
use Rattle.pipe_types.specs.declared.step.Step.{Step}
use Rattle.pipe_types.specs.declared.step.Step.TheVariants.{Accept, Dispatch, Take, Done, Gather, Close, Wrote, Child, ChildEnd, Kill, Late, Halt}
use Rattle.pipe_types.specs.Numbers.{same_stage, batch_no}
use Rattle.pipe_model.specs.History.{History, accepted, closed}
use Rattle.pipe_model.specs.Content.{is_among_next}
use Rattle.pipe_model.specs.Flow.{place, view_of, next_units, closing, taken, gathered, put_in_batch, accepted_to, among}
use Rattle.pipe_model.specs.Moves.{is_final}
use Rattle.pipe_model.specs.Places.{settled_at}
use Rattle.pipe_laws.proofs.Settled.{stays_settled}
use Rattle.core_laws.specs.Columns.{mark, mark_by}

-- what is neither acknowledged nor lost was settled nowhere
pub open_unsettled : (topology : Topology) (before : History) (n : ℕ) → is_final (place topology before n) ≡ false → settled_at topology before n ≡ 0
open_unsettled topology [] n e = refl
open_unsettled topology (step ∷ before) n e = cases (is_final (place topology before n)) refl
  where
    cases : (b : Bool) → is_final (place topology before n) ≡ b
        → (if b then settled_at topology before n else (if is_final (place topology (step ∷ before) n) then length before else 0)) ≡ 0
    cases true final = let wrong : false ≡ true = sym e ∙ (ap is_final (stays_settled topology (step ∷ []) before n final) ∙ final) in cc
    cases false open_yet = ap (λ t. if t then length before else 0) e

-- a step that settles none leaves when each was settled
kept : (topology : Topology) (step : Step) (before : History) (n : ℕ) → is_final (place topology (step ∷ before) n) ≡ is_final (place topology before n)
    → settled_at topology before n ≡ settled_at topology (step ∷ before) n
kept topology step before n same = cases (is_final (place topology before n)) refl
  where
    cases : (b : Bool) → is_final (place topology before n) ≡ b
        → settled_at topology before n ≡ (if b then settled_at topology before n else (if is_final (place topology (step ∷ before) n) then length before else 0))
    cases true final = refl
    cases false open_yet = open_unsettled topology before n open_yet ∙ sym (ap (λ t. if t then length before else 0) (same ∙ open_yet))

-- Steps that settle none

either_open : (b : Bool) (p q : Place) → is_final (Some p) ≡ false → is_final (Some q) ≡ false → is_final (Some (if b then p else q)) ≡ false
either_open true p q x y = x
either_open false p q x y = y

taken_kept : (chunk : List ℕ) (s : StageNo) (n : ℕ) (o : Option Place) → is_final (option_map (taken chunk s n) o) ≡ is_final o
taken_kept chunk s n (Some (Inbox u)) = either_open (same_stage s u.consumer && among chunk n) (Running s) (Inbox u) refl refl
taken_kept chunk s n _ = refl

gathered_kept : (s : StageNo) (m n : ℕ) (o : Option Place) → is_final (option_map (gathered s m n) o) ≡ is_final o
gathered_kept s m n (Some (Inbox u)) = either_open (same_stage s u.consumer && m == n) (Gathered s) (Inbox u) refl refl
gathered_kept s m n _ = refl

closed_kept : (numbers : List ℕ) (s : StageNo) (b n : ℕ) (o : Option Place) → is_final (option_map (put_in_batch numbers s b n) o) ≡ is_final o
closed_kept numbers s b n (Some (Gathered t)) = either_open (same_stage s t && among numbers n) (InBatch (batch_no b)) (Gathered t) refl refl
closed_kept numbers s b n _ = refl

accepted_kept : (from count : ℕ) (s : StageNo) (n : ℕ) (o : Option Place) → is_final (accepted_to from count (Waiting s) n o) ≡ is_final o
accepted_kept from count s n (Some p) = refl
accepted_kept from count s n None = new (is_among_next from count n)
  where
    new : (b : Bool) → is_final (if b then Some (Waiting s) else None) ≡ false
    new true = refl
    new false = refl

-- The law

-- a step that may settle, after a history of which it is known
settling : (topology : Topology) (before : History) (step : Step) (n : ℕ) → mark topology before n ≡ settled_at topology before n
    → mark_by topology before step n (mark topology before n) ≡ settled_at topology (step ∷ before) n
settling topology before step n known =
    ap (λ m. if is_final (place topology before n) then m else (if is_final (place topology (step ∷ before) n) then length before else 0)) known

pub mark_is : (topology : Topology) (before : History) (n : ℕ) → mark topology before n ≡ settled_at topology before n
mark_is topology [] n = refl
mark_is topology (Dispatch s ∷ before) n = settling topology before (Dispatch s) n (mark_is topology before n)
mark_is topology (Done s replies ∷ before) n = settling topology before (Done s replies) n (mark_is topology before n)
mark_is topology (Wrote s bytes end ∷ before) n = settling topology before (Wrote s bytes end) n (mark_is topology before n)
mark_is topology (ChildEnd s slot reply ∷ before) n = settling topology before (ChildEnd s slot reply) n (mark_is topology before n)
mark_is topology (Kill s why ∷ before) n = settling topology before (Kill s why) n (mark_is topology before n)
mark_is topology (Halt ∷ before) n = settling topology before Halt n (mark_is topology before n)
mark_is topology (Late s slot i answer ∷ before) n = settling topology before (Late s slot i answer) n (mark_is topology before n)
mark_is topology (Accept s records ∷ before) n =
    mark_is topology before n ∙ kept topology (Accept s records) before n (accepted_kept (accepted before) (length records) s n (place topology before n))
mark_is topology (Take s u k ∷ before) n =
    mark_is topology before n ∙ kept topology (Take s u k) before n (taken_kept (next_units topology (view_of topology before) s u k) s n (place topology before n))
mark_is topology (Gather s m ∷ before) n = mark_is topology before n ∙ kept topology (Gather s m) before n (gathered_kept s m.0 n (place topology before n))
mark_is topology (Close s first trigger ∷ before) n =
    mark_is topology before n
    ∙ kept topology (Close s first trigger) before n (closed_kept (closing before (view_of topology before) s first.0) s (closed before + 1) n (place topology before n))
mark_is topology (Child s m slot ∷ before) n =
    mark_is topology before n ∙ kept topology (Child s m slot) before n (taken_kept (m.0 ∷ []) s n (place topology before n))
mark_is topology (step ∷ before) n = mark_is topology before n ∙ kept topology step before n refl
