-- The law as the clause states it.
use Rattle.std.proofs.Common.{◌≤◌}
use Rattle.std.specs.Prelude.{IsTrue}
use Rattle.pipe_types.specs.declared.topology.Topology.{Topology}
use Rattle.pipe_types.specs.Sound.{IsSound}
use Rattle.pipe_model.specs.History.{History}
use Rattle.pipe_model.specs.Legal.{is_legal}
use Rattle.work_laws.specs.Work.{work_done}
use Rattle.work_laws.specs.Limits.{most_work}
use Rattle.work_laws.proofs.Total.{work_within}

pub work_law : (topology : Topology) (before : History) → IsSound topology → IsTrue (is_legal topology before) → work_done before ≤ most_work topology
work_law topology before sound h = work_within topology before sound h
