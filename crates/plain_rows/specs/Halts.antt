-- A stage because of which the pipeline halts.
use Rattle.std.specs.Prelude.{Bool, ◌&&◌, not}
use Rattle.pipe_types.specs.declared.numbers.StageNo.{StageNo}
use Rattle.pipe_types.specs.declared.topology.Topology.{Topology}
use Rattle.pipe_model.specs.History.{History}
use Rattle.pipe_model.specs.Legal.{needs_restart, no_post_out, may_restart}

-- it needs a restart, no post of it is out, and its limit is met
abbrev pub halts_at : Topology → History → StageNo → Bool
halts_at topology before s = needs_restart topology before s && (no_post_out topology before s && not (may_restart topology before s))
