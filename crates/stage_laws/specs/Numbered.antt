-- The stages of a topology by their numbers.
use Rattle.std.specs.Prelude.{◌≡◌, ℕ, suc, ◌≤◌, length, Some, slice_get}
use Rattle.pipe_types.specs.declared.numbers.StageNo.{StageNo}
use Rattle.pipe_types.specs.declared.topology.Topology.{Topology}
use Rattle.pipe_types.specs.declared.topology.StageSpec.{StageSpec}
use Rattle.pipe_types.specs.Stages.{spec_of}

-- a topology's stages by number
pub record IsNumberedTopology (topology : Topology) : Type 0 where
  pub few : length topology.stages ≤ 64
  pub ordered : (s : StageNo) (spec : StageSpec) → spec_of topology s ≡ Some spec → spec.min ≤ spec.max
  pub numbers : (i : ℕ) (spec : StageSpec) → slice_get topology.stages i ≡ Some spec → spec.no.0 ≡ suc i
  pub found : (i : ℕ) (spec : StageSpec) → slice_get topology.stages i ≡ Some spec → spec_of topology spec.no ≡ Some spec
  pub named : (s : StageNo) (spec : StageSpec) → spec_of topology s ≡ Some spec → spec.no ≡ s
  pub within : (s : StageNo) (spec : StageSpec) → spec_of topology s ≡ Some spec → (1 ≤ s.0) × (s.0 ≤ length topology.stages)
