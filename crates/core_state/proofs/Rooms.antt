-- What a step leaves of the room that was made before.
use Rattle.std.proofs.Common.{◌≡◌, ℕ, ◌+◌, ◌≤◌, ◌∷◌, length, Bool, true, false, refl, ap, sym, ◌∙◌, subst, arith}
use Rattle.std.specs.Prelude.{vec_capacity, ◌==◌}
use Rattle.std.specs.declared.alloc.Global.{Global}
use Rattle.std.specs.declared.vec.Vec.{Vec}
use Rattle.pipe_types.specs.declared.message.Outcome.{Outcome}
use Rattle.pipe_types.specs.declared.numbers.StageNo.{StageNo}
use Rattle.pipe_types.specs.declared.message.Place.{Place}
use Rattle.pipe_types.specs.declared.step.Step.{Step}
use Rattle.pipe_types.specs.declared.step.SourceHow.{SourceHow}
use Rattle.pipe_types.specs.declared.step.Step.TheVariants.{Fetch, SourceEnd}
use Rattle.pipe_types.specs.declared.topology.Topology.{Topology}
use Rattle.pipe_types.specs.Numbers.{post}
use Rattle.pipe_types.specs.Stages.{spec_of}
use Rattle.pipe_journal.specs.Recorded.{Recorded}
use Rattle.pipe_model.specs.Flow.{has_batchers_in}
use Rattle.pipe_model.specs.History.{History}
use Rattle.pipe_model.specs.Legal.{allows, has_role, is_batch_processor_role}
use Rattle.pipe_model.specs.Posts.{is_out, puts_out}
use Rattle.stage_laws.proofs.Records.{booked_step}
use Rattle.core_tables.specs.declared.rows.ContentRow.{ContentRow}
use Rattle.core_tables.specs.Tables.{list_at, room_at}
use Rattle.core_waits.specs.Waits.{free_at}
use Rattle.stage_buffer.specs.Waiting.{Waiting}
use Rattle.core_laws.proofs.Due.{due_within, end_due}
use Rattle.core_laws.proofs.Lawful.{legal_after}
use Rattle.core_laws.proofs.TakenBatches.{size_kept, out_before, no_job}
use Rattle.core_laws.specs.Due.{due_steps, booked, taken_size, puts_job}
use Rattle.core_state.specs.declared.state.Core.{Core}
use Rattle.core_state.specs.Room.{HaveRows, Roomy}
use Rattle.core_state.specs.Stands.{Holds}

-- whatever the step does, at most 1088 are due behind it
pub many_due : (core : Core) (after : History) (spare : ℕ) → Holds core → 1088 ≤ spare → due_steps core.topology after ≤ spare
many_due core after spare x many = omega (arith, due_within core.topology after, x.fields.sized.few, many)

-- so a call that reserved one more has it behind its step
pub room_due : (core : Core) (after : History) (old new : ℕ) → Holds core → 1089 ≤ old → old ≤ new + 1 → due_steps core.topology after ≤ new
room_due core after old new x many spare = many_due core after new x (omega (arith, many, spare))

-- the end of a producer's source has its room from the fetch that it answers, and that of the control source from its call
pub end_room : (core : Core) (s : StageNo) (how : SourceHow) (spare : ℕ) → Holds core → allows core.topology core.journal.steps (SourceEnd s how) ≡ true → core.journal.spare ≤ spare
    → ((s.0 == 0) ≡ true → 1089 ≤ spare) → due_steps core.topology (SourceEnd s how ∷ core.journal.steps) + 1 ≤ spare
end_room core s how spare x allowed more control = by (s.0 == 0) refl
  where
    by : (b : Bool) → (s.0 == 0) ≡ b → due_steps core.topology (SourceEnd s how ∷ core.journal.steps) + 1 ≤ spare
    by true e = omega (arith, due_within core.topology (SourceEnd s how ∷ core.journal.steps), x.fields.sized.few, control e)
    by false e = omega (arith, end_due core.topology core.journal.steps s how x.sound x.legal allowed e, x.room.steps, more)

-- Rows

-- tables of the same capacities have room for so many rows as well
pub same_rows : (n : ℕ) (p q : Vec Place Global) (m o : Vec ℕ Global) (r s : Vec StageNo Global) (c d : Vec ContentRow Global) → HaveRows n p m r c
    → vec_capacity q ≡ vec_capacity p → vec_capacity o ≡ vec_capacity m → vec_capacity s ≡ vec_capacity r → vec_capacity d ≡ vec_capacity c → HaveRows n q o s d
same_rows n p q m o r s c d x places settled producers contents =
    record { places = omega (arith, x.places, places); settled = omega (arith, x.settled, settled); producers = omega (arith, x.producers, producers); contents = omega (arith, x.contents, contents) }

-- fewer rows have room as well
pub fewer_rows : (n k : ℕ) (p : Vec Place Global) (m : Vec ℕ Global) (r : Vec StageNo Global) (c : Vec ContentRow Global) → HaveRows n p m r c → k ≤ n → HaveRows k p m r c
fewer_rows n k p m r c x less =
    record { places = omega (arith, x.places, less); settled = omega (arith, x.settled, less); producers = omega (arith, x.producers, less); contents = omega (arith, x.contents, less) }

-- a step other than a fetch books no rows
pub rows_kept : (core : Core) (step : Step) → Holds core → allows core.topology core.journal.steps step ≡ true → ((s : StageNo) (n : ℕ) → step ≡ Fetch s n → ⊥)
    → HaveRows (booked core.topology (step ∷ core.journal.steps)) core.places core.settled core.producers core.contents
rows_kept core step x allowed other =
    fewer_rows (booked core.topology core.journal.steps) (booked core.topology (step ∷ core.journal.steps)) core.places core.settled core.producers core.contents x.room.rows
    (booked_step core.topology core.journal.steps step x.sound (legal_after core.topology core.journal.steps step x.legal allowed) other)

no_fetch_is : (step : Step) → puts_job step ≡ false → (s : StageNo) (n : ℕ) → step ≡ Fetch s n → ⊥
no_fetch_is step none s n e = let wrong : true ≡ false = sym (ap puts_job e) ∙ none in cc

-- Ends

-- a step that puts no job of the stage out leaves it what room there is for its ends
pub ends_kept : (core : Core) (step : Step) (s : StageNo) → Holds core → has_role core.topology s is_batch_processor_role ≡ true → puts_out step (post s 0) ≡ false
    → is_out (step ∷ core.journal.steps) (post s 0) ≡ true → taken_size core.topology (step ∷ core.journal.steps) s ≤ room_at core.ends.items s
ends_kept core step s x role none out =
    subst (λ n. n ≤ room_at core.ends.items s) (sym (size_kept core.topology core.journal.steps step s x.legal role none)) (x.room.ends s role (out_before core.journal.steps step s none out))

-- The whole room

-- A step that is no fetch and no take: its caller shows that there is room for the steps that are due behind it and for the
-- units of what runs, that the tables by message keep their capacities, and that the lists for ends are as they were
pub room_after : (core new : Core) (step : Step) → Holds core → allows core.topology core.journal.steps step ≡ true → puts_job step ≡ false
    → due_steps core.topology (step ∷ core.journal.steps) ≤ new.journal.spare
    → vec_capacity new.places ≡ vec_capacity core.places → vec_capacity new.settled ≡ vec_capacity core.settled
    → vec_capacity new.producers ≡ vec_capacity core.producers → vec_capacity new.contents ≡ vec_capacity core.contents
    → ((s : StageNo) → has_batchers_in (spec_of core.topology s) ≡ true → length (list_at new.chunks.items s) ≤ free_at new.waiting.items s)
    → new.ends ≡ core.ends
    → Roomy new core.topology (step ∷ core.journal.steps)
room_after core new step x allowed none due places settled producers contents queues ends =
    record {
      steps = due;
      rows =
          same_rows (booked core.topology (step ∷ core.journal.steps)) core.places new.places core.settled new.settled core.producers new.producers core.contents new.contents
          (rows_kept core step x allowed (no_fetch_is step none)) places settled producers contents;
      queues = queues;
      ends = λ s role out.
          subst (λ (v : Vec (Vec Outcome Global) Global). taken_size core.topology (step ∷ core.journal.steps) s ≤ room_at v.items s) (sym ends)
          (ends_kept core step s x role (no_job core.topology core.journal.steps step s role allowed none) out);
    }

-- and where none of these tables but the journal changes
pub room_beside : (core new : Core) (step : Step) → Holds core → allows core.topology core.journal.steps step ≡ true → puts_job step ≡ false
    → due_steps core.topology (step ∷ core.journal.steps) ≤ new.journal.spare
    → new.places ≡ core.places → new.settled ≡ core.settled → new.producers ≡ core.producers → new.contents ≡ core.contents
    → new.chunks ≡ core.chunks → new.waiting ≡ core.waiting → new.ends ≡ core.ends
    → Roomy new core.topology (step ∷ core.journal.steps)
room_beside core new step x allowed none due places settled producers contents chunks waiting ends =
    room_after core new step x allowed none due (ap (λ v. vec_capacity v) places) (ap (λ v. vec_capacity v) settled) (ap (λ v. vec_capacity v) producers) (ap (λ v. vec_capacity v) contents)
    (λ s h.
    subst (λ (v : Vec (Vec ℕ Global) Global). length (list_at v.items s) ≤ free_at new.waiting.items s) (sym chunks)
    (subst (λ (v : Vec (Waiting ℕ) Global). length (list_at core.chunks.items s) ≤ free_at v.items s) (sym waiting) (x.room.queues s h)))
    ends

-- where the journal alone made room
pub still_roomy : (core : Core) (j : Recorded) (topology : Topology) (before : History) → Roomy core topology before → core.journal.spare ≤ j.spare → Roomy (record core { journal = j }) topology before
still_roomy core j topology before x spare = record { steps = omega (arith, x.steps, spare); rows = x.rows; queues = x.queues; ends = x.ends }
