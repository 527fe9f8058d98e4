-- What the tables of a run have of jobs.
use Rattle.std.proofs.Common.{◌≡◌, ℕ, zero, suc, ◌+◌, ◌-◌, ◌≤◌, [], ◌∷◌, true, false, refl, ap, sym, ◌∙◌, Some, None, Option, arith, subst, All}
use Rattle.std.specs.Prelude.{slice_get, option_map, if◌then◌else◌, ◌==◌, is_some}
use Rattle.std.proofs.lemmas.Bool.Decides.{nat_tests}
use Rattle.pipe_types.specs.declared.numbers.StageNo.{StageNo}
use Rattle.pipe_types.specs.declared.topology.Topology.{Topology}
use Rattle.pipe_types.specs.declared.message.Place.{Place}
use Rattle.pipe_types.specs.declared.step.Step.TheVariants.{Close}
use Rattle.pipe_types.specs.Numbers.{post}
use Rattle.pipe_model.specs.History.{History, closed}
use Rattle.pipe_model.specs.Posts.{is_out, in_slot}
use Rattle.pipe_model.specs.Flow.{place, batch, numbers_in, view_of, closing}
use Rattle.pipe_model.specs.Batches.{Batch}
use Rattle.pipe_model.specs.Work.{child_of, messages_of}
use Rattle.pipe_model.specs.Legal.{is_legal}
use Rattle.pipe_model.specs.Taken.{Closed, closed_as}
use Rattle.pipe_laws.proofs.Accepted.{placed_accepted}
use Rattle.pipe_laws.proofs.Levels.{level}
use Rattle.pipe_laws.proofs.Slots.{slot_reached}
use Rattle.stage_laws.proofs.Numbering.{numbered_topology}
use Rattle.core_tables.specs.declared.rows.BatchRow.{BatchRow}
use Rattle.core_tables.specs.Rows.{post_at}
use Rattle.core_laws.specs.Columns.{closed_numbers}
use Rattle.core_laws.proofs.Lawful.{each_all}
use Rattle.core_laws.proofs.Past.{known_within, out_post}
use Rattle.core_state.specs.declared.state.Core.{Core}
use Rattle.core_state.specs.Stands.{Holds, closed_seen}
use Rattle.core_takes.proofs.TakenClosed.{closed_are, closed_low}
use Rattle.plain_run.specs.declared.works.Works.{Works}
use Rattle.plain_run.specs.Works.{WorksStand, held_in, numbers_of, numbers_at}

-- Children

-- a message that was started in a slot has a number from 1
pub started_low : (topology : Topology) (before : History) (s : StageNo) (slot n : ℕ) → is_legal topology before ≡ true → in_slot before s slot ≡ Some n → 1 ≤ n
started_low topology before s slot n legal e = (placed_accepted topology before n (there (place topology before n) refl)).0
  where
    there : (o : Option Place) → place topology before n ≡ o → is_some (place topology before n) ≡ true
    there None p = absurd (omega (arith, slot_reached topology before s slot n legal e, ap (level topology) p))
    there (Some p) q = ap is_some q

-- the table has what was started in a slot whose job is out
pub started_is : (core : Core) (works : Works) (s : StageNo) (slot : ℕ) → Holds core → WorksStand core.topology core.journal.steps works
    → is_out core.journal.steps (post s slot) ≡ true → held_in (slice_get works.started.items (post_at s.0 slot)) ≡ in_slot core.journal.steps s slot
started_is core works s slot x w out =
    let p = out_post core.topology core.journal.steps s slot x.sound x.legal out in
    ap held_in (w.started s slot (known_within core.topology s (numbered_topology core.topology x.sound) p.known).1 p.low)

-- the message of the child
pub child_some : (before : History) (s : StageNo) (slot n : ℕ) → in_slot before s slot ≡ Some n → child_of before s slot ≡ messages_of before (n ∷ [])
child_some before s slot n e = rw e refl

pub child_none : (before : History) (s : StageNo) (slot : ℕ) → in_slot before s slot ≡ None → child_of before s slot ≡ []
child_none before s slot e = rw e refl

pub one_low : (n : ℕ) → 1 ≤ n → All (λ m. 1 ≤ m) (n ∷ [])
one_low n low zero d below = low
one_low n low (suc k) d below = absurd (omega arith)

-- Batches

closed_zero : (topology : Topology) (before : History) → closed_as topology before 0 ≡ None
closed_zero topology [] = refl
closed_zero topology (Close s first trigger ∷ before) =
    let other : (0 == closed before + 1) ≡ false = grind (arith, nat_tests) in
    ap (λ t. if t then Some (record { numbers = closing before (view_of topology before) s first.0; trigger = trigger }) else closed_as topology before 0) other ∙ closed_zero topology before
closed_zero topology (step ∷ before) = closed_zero topology before

seen_numbers : (o : Option BatchRow) → numbers_of o ≡ closed_numbers (option_map closed_seen o)
seen_numbers None = refl
seen_numbers (Some row) = refl

numbers_closed : (core : Core) (b : ℕ) → Holds core → numbers_at core.batches.items b ≡ closed_numbers (closed_as core.topology core.journal.steps b)
numbers_closed core zero x = ap closed_numbers (sym (closed_zero core.topology core.journal.steps))
numbers_closed core (suc i) x =
    let some : (suc i == 0) ≡ false = grind (arith, nat_tests) in
    let less : suc i - 1 ≡ i = omega arith in
    ap (λ b. if b then [] else numbers_of (slice_get core.batches.items (suc i - 1))) some
    ∙ (ap (λ k. numbers_of (slice_get core.batches.items k)) less ∙ (seen_numbers (slice_get core.batches.items i) ∙ ap closed_numbers (x.fields.batches i)))

batch_numbers : (o : Option Batch) (p : Option Closed) → option_map (λ x. x.numbers) o ≡ option_map (λ c. c.numbers) p → closed_numbers p ≡ numbers_in o
batch_numbers None None e = refl
batch_numbers None (Some c) e = cc
batch_numbers (Some x) None e = cc
batch_numbers (Some x) (Some c) e = cc

-- the table has the messages of a batch
pub numbers_are : (core : Core) (b : ℕ) → Holds core → numbers_at core.batches.items b ≡ numbers_in (batch core.topology core.journal.steps b)
numbers_are core b x =
    numbers_closed core b x
    ∙ batch_numbers (batch core.topology core.journal.steps b) (closed_as core.topology core.journal.steps b) (closed_are core.topology core.journal.steps b)

-- with numbers from 1
pub numbers_low : (core : Core) (b : ℕ) → Holds core → All (λ n. 1 ≤ n) (numbers_at core.batches.items b)
numbers_low core b x =
    subst (All (λ (n : ℕ). 1 ≤ n)) (sym (numbers_closed core b x)) (each_all (λ n. 1 ≤ n) (closed_numbers (closed_as core.topology core.journal.steps b)) (closed_low core.topology core.journal.steps b))
