-- Restarts under one limit.
use Rattle.std.specs.Prelude.{ℕ, ◌==◌, Bool, false}
use Rattle.pipe_types.specs.declared.topology.Topology.{Topology}
use Rattle.pipe_types.specs.declared.step.Step.{Step}
use Rattle.pipe_types.specs.declared.step.Step.TheVariants.{Restart}
use Rattle.pipe_model.specs.Legal.{limit_of}

-- the step restarts a stage of this limit
abbrev pub is_under : Topology → Step → (limit : ℕ) → Bool
is_under topology (Restart s) limit = limit_of topology s == limit
is_under topology _ limit = false
