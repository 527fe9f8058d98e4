-- Machines that stand for a history, and the steps that a step owes.
use Rattle.std.specs.Prelude.{Bool, Option, Some, None}
use Rattle.pipe_types.specs.declared.topology.Topology.{Topology}
use Rattle.pipe_types.specs.declared.step.Step.{Step}
use Rattle.pipe_model.specs.History.{History, history}
use Rattle.pipe_model.specs.Legal.{is_dispatch_of, is_crash_of}
use Rattle.plain_lives.specs.Lives.{LivesStand}
use Rattle.plain_places.specs.Standing.{TablesStand}
use Rattle.plain_works.specs.Works.{WorksStand}
use Rattle.plain_legal.specs.declared.machine.Machine.{Machine}
use Rattle.plain_legal.specs.declared.owed.Owed.{Owed}
use Rattle.plain_legal.specs.declared.owed.Owed.TheVariants.{Nothing, DispatchOf, CrashOf}

abbrev pub topology_of : Machine → Topology
topology_of machine = machine.flow.past.topology.now

-- the history of the steps so far
abbrev pub history_of : Machine → History
history_of machine = history machine.flow.past.steps.now

-- the lives, the tables and the works are those of the history
pub record MachineStands (machine : Machine) : Type 0 where
  pub lives : LivesStand (topology_of machine) (history_of machine) machine.flow.past.lives.now
  pub tables : TablesStand (topology_of machine) (history_of machine) machine.flow.tables.now
  pub works : WorksStand (topology_of machine) (history_of machine) machine.works.now

-- the test of the step that is owed
abbrev pub test_of : Owed → Option (Step → Bool)
test_of Nothing = None
test_of (DispatchOf s) = Some (is_dispatch_of s)
test_of (CrashOf s) = Some (is_crash_of s)
