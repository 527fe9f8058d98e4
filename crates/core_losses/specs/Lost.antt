-- The places, the marks and the legs after a kill.
use Rattle.std.specs.Prelude.{◌≡◌, ℕ, suc, ◌<◌, List, ◌∷◌, length, slice_get, Option, Some, true, IsTrue}
use Rattle.std.specs.declared.alloc.Global.{Global}
use Rattle.std.specs.declared.vec.Vec.{Vec}
use Rattle.pipe_types.specs.declared.numbers.StageNo.{StageNo}
use Rattle.pipe_types.specs.declared.message.Place.{Place}
use Rattle.pipe_types.specs.declared.message.Why.{Why}
use Rattle.pipe_types.specs.declared.step.Step.{Step}
use Rattle.pipe_model.specs.History.{accepted}
use Rattle.pipe_model.specs.Flow.{place, batch}
use Rattle.pipe_model.specs.Legal.{allows}
use Rattle.pipe_model.specs.Lives.{reason_in, kill_set}
use Rattle.core_deaths.specs.Reasons.{reason_at, is_killing}
use Rattle.message_ack.specs.Ends.{Ends, sent_in}
use Rattle.core_laws.specs.Columns.{mark, ends_in_progress}
use Rattle.core_state.specs.declared.state.Core.{Core}

-- a step that may come next kills the stages for these reasons
pub record IsKill (core : Core) (killed : List (Option Why)) : Type 0 where
  pub step : Step
  pub allowed : IsTrue (allows core.topology core.journal.steps step)
  pub kills : is_killing step ≡ true
  pub reasons : (s : StageNo) → reason_at killed s ≡ reason_in (kill_set core.topology core.journal.steps step) s

-- what the step kills is lost
pub record AreLost (core : Core) (step : Step) (places : Vec Place Global) (settled : Vec ℕ Global) (legs : List (ℕ × Ends)) : Type 0 where
  pub places-len : length places.items ≡ length core.places.items
  pub settled-len : length settled.items ≡ length core.settled.items
  pub placed : (i : ℕ) → slice_get places.items i ≡ place core.topology (step ∷ core.journal.steps) (suc i)
  pub marks : (i : ℕ) → i < accepted core.journal.steps → slice_get settled.items i ≡ Some (mark core.topology (step ∷ core.journal.steps) (suc i))
  pub ended : (i : ℕ) → sent_in legs (suc i) ≡ ends_in_progress (batch core.topology (step ∷ core.journal.steps) (suc i))
