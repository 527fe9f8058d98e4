-- Records that a producer brings.
use Rattle.std.specs.Prelude.{◌≡◌, ℕ, ◌≤◌, Bool, true, false, if◌then◌else◌, nat_lt, ◌∷◌, Option, Some, None}
use Rattle.pipe_types.specs.declared.numbers.StageNo.{StageNo}
use Rattle.pipe_types.specs.declared.topology.Topology.{Topology}
use Rattle.pipe_types.specs.declared.topology.StageSpec.{StageSpec}
use Rattle.pipe_types.specs.declared.step.Step.TheVariants.{Dispatch}
use Rattle.pipe_model.specs.History.{History}
use Rattle.pipe_model.specs.Legal.{may_dispatch}
use Rattle.core_laws.specs.Columns.{is_by_partition}

-- where the stage dispatches by a field, it has that field's number in a byte, and parts
pub record HasParts (spec : StageSpec) : Type 0 where
  pub field : is_by_partition spec.dispatch ≡ true → spec.field ≤ 255
  pub parts : is_by_partition spec.dispatch ≡ true → 1 ≤ spec.parts

-- more units than the size of a buffer, where it has one
abbrev pub is_over : Option ℕ → (units : ℕ) → Bool
is_over None units = false
is_over (Some size) units = nat_lt size units

-- the steps with a dispatch of the stage, where there is one to make
abbrev pub and_dispatch : Topology → History → StageNo → History
and_dispatch topology steps s = if may_dispatch topology steps s then Dispatch s ∷ steps else steps
