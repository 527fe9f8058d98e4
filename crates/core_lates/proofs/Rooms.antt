-- The room that was made before for answers that come late, and for those of handlers that crashed.
use Rattle.std.proofs.Common.{◌≡◌, ℕ, ◌+◌, ◌≤◌, List, ◌∷◌, length, true, refl, arith}
use Rattle.std.specs.Prelude.{◌==◌}
use Rattle.std.proofs.lemmas.Bool.{eq-eqb}
use Rattle.pipe_types.specs.declared.numbers.StageNo.{StageNo}
use Rattle.pipe_types.specs.declared.message.BatchEnd.{BatchEnd}
use Rattle.pipe_types.specs.declared.message.Reply.{Reply}
use Rattle.pipe_types.specs.declared.step.LateAnswer.{LateAnswer}
use Rattle.pipe_types.specs.declared.step.LateAnswer.TheVariants.{Records}
use Rattle.pipe_types.specs.declared.step.Step.{Step}
use Rattle.pipe_types.specs.declared.step.Step.TheVariants.{Done, Wrote, Late}
use Rattle.pipe_types.specs.Numbers.{post, same_stage}
use Rattle.pipe_model.specs.History.{accepted}
use Rattle.pipe_model.specs.Legal.{allows, fetches_out}
use Rattle.pipe_model.specs.Posts.{is_out}
use Rattle.pipe_laws.proofs.Allowed.{done_facts, wrote_facts, late_facts}
use Rattle.pipe_laws.proofs.Tests.{and_left, both, same_stage-self}
use Rattle.core_laws.proofs.Due.{answer_due}
use Rattle.core_laws.specs.Due.{due_steps, booked}
use Rattle.core_state.specs.declared.state.Core.{Core}
use Rattle.core_state.specs.Room.{HaveRows}
use Rattle.core_state.specs.Stands.{Holds}
use Rattle.core_state.proofs.Rooms.{fewer_rows, rows_kept}

-- each of them leaves at least one step less due
pub late_due : (core : Core) (s : StageNo) (slot i : ℕ) (answer : LateAnswer) → Holds core → allows core.topology core.journal.steps (Late s slot i answer) ≡ true
    → due_steps core.topology (Late s slot i answer ∷ core.journal.steps) + 1 ≤ due_steps core.topology core.journal.steps
late_due core s slot i answer x allowed =
    answer_due core.topology core.journal.steps (Late s slot i answer) s slot x.sound x.legal (λ p. refl) (both (same_stage s s) (slot == slot) (same_stage-self s) (eq-eqb slot slot refl))
    (late_facts core.topology core.journal.steps s slot i answer allowed).out (λ t h. h)

pub done_due : (core : Core) (s : StageNo) (replies : List Reply) → Holds core → allows core.topology core.journal.steps (Done s replies) ≡ true
    → due_steps core.topology (Done s replies ∷ core.journal.steps) + 1 ≤ due_steps core.topology core.journal.steps
done_due core s replies x allowed =
    answer_due core.topology core.journal.steps (Done s replies) s 0 x.sound x.legal (λ p. refl) (both (same_stage s s) (0 == 0) (same_stage-self s) refl)
    (and_left (is_out core.journal.steps (post s 0)) _ (done_facts core.topology core.journal.steps s replies allowed).current) (λ t h. h)

pub wrote_due : (core : Core) (s : StageNo) (bytes : ℕ) (end : BatchEnd) → Holds core → allows core.topology core.journal.steps (Wrote s bytes end) ≡ true
    → due_steps core.topology (Wrote s bytes end ∷ core.journal.steps) + 1 ≤ due_steps core.topology core.journal.steps
wrote_due core s bytes end x allowed =
    answer_due core.topology core.journal.steps (Wrote s bytes end) s 0 x.sound x.legal (λ p. refl) (both (same_stage s s) (0 == 0) (same_stage-self s) refl)
    (and_left (is_out core.journal.steps (post s 0)) _ (wrote_facts core.topology core.journal.steps s bytes end allowed).current) (λ t h. h)

-- so there is room for its step, and behind it for those that are due then
pub step_room : (core : Core) (step : Step) → Holds core → due_steps core.topology (step ∷ core.journal.steps) + 1 ≤ due_steps core.topology core.journal.steps → 1 ≤ core.journal.spare
step_room core step x less = omega (arith, less, x.room.steps)

pub rest_room : (core : Core) (step : Step) (spare : ℕ) → Holds core → due_steps core.topology (step ∷ core.journal.steps) + 1 ≤ due_steps core.topology core.journal.steps → core.journal.spare ≤ spare + 1
    → due_steps core.topology (step ∷ core.journal.steps) ≤ spare
rest_room core step spare x less one = omega (arith, less, x.room.steps, one)

-- records that come late have rows
pub late_rows : (core : Core) (s : StageNo) (slot i : ℕ) (records : List (List ℕ)) → Holds core → allows core.topology core.journal.steps (Late s slot i (Records records)) ≡ true
    → HaveRows (accepted core.journal.steps + length records) core.places core.settled core.producers core.contents
late_rows core s slot i records x allowed =
    let step : Step = Late s slot i (Records records) in
    let after : ℕ = booked core.topology (step ∷ core.journal.steps) in
    let more : after ≡ accepted core.journal.steps + length records + fetches_out core.topology (step ∷ core.journal.steps) = refl in
    fewer_rows after (accepted core.journal.steps + length records) core.places core.settled core.producers core.contents (rows_kept core step x allowed (λ t n e. cc)) (omega (arith, more))
