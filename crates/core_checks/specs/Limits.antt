-- Stages that differ in their restart limits alone.
use Rattle.pipe_types.specs.declared.topology.StageSpec.{StageSpec}

-- the stage, with the pipeline's limit on restarts
abbrev pub bare : StageSpec → StageSpec
bare s = record s { limit = 0 }
