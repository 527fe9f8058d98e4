-- What a run may still do: the measure by which it ends.
use Rattle.std.specs.Prelude.{ℕ, ◌+◌, ◌-◌, ◌*◌}
use Rattle.pipe_types.specs.declared.topology.Topology.{Topology}
use Rattle.pipe_model.specs.History.{History}
use Rattle.pipe_model.specs.Legal.{quiet_row}
use Rattle.work_laws.specs.Work.{work_done}
use Rattle.work_laws.specs.Limits.{most_work}

-- the work that is left, and between two steps of work as many quiet answers in a row as the idle limit
abbrev pub work_left : Topology → History → ℕ
work_left topology before =
    (most_work topology - work_done before) * (topology.idle_limit + 1) + (topology.idle_limit - quiet_row before)
