-- A run of steps as contracts see it.
use Rattle.pipe_types.specs.declared.topology.Topology.{Topology}
use Rattle.pipe_model.specs.History.{History}

-- a topology, and the steps so far
pub record RunSeen : Type 0 where
  pub topology : Topology
  pub steps : History
