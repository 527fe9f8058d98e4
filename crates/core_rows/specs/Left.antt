-- What is left to do.
use Rattle.std.specs.Prelude.{Bool}
use Rattle.std.specs.List.{list_all}
use Rattle.pipe_types.specs.declared.topology.Topology.{Topology}
use Rattle.pipe_model.specs.History.{History}
use Rattle.pipe_model.specs.Standing.{is_done_above}

-- nothing is left in the stages above the batchers
abbrev pub all_done_above : Topology → History → Bool
all_done_above topology before = list_all (λ spec. is_done_above topology before spec.no) topology.stages
