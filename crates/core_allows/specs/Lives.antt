-- A stage because of which the pipeline halts.
use Rattle.std.specs.Prelude.{Bool, ◌&&◌, not}
use Rattle.pipe_types.specs.declared.topology.Topology.{Topology}
use Rattle.pipe_types.specs.declared.topology.StageSpec.{StageSpec}
use Rattle.pipe_model.specs.History.{History}
use Rattle.pipe_model.specs.Legal.{needs_restart, no_post_out, may_restart}

-- it needs a restart, no post of it is out, and its limit is met
abbrev pub does_halt : Topology → History → StageSpec → Bool
does_halt topology before spec =
    needs_restart topology before spec.no && (no_post_out topology before spec.no && not (may_restart topology before spec.no))
