-- What stands for a history while its steps are gone over.
use Rattle.pipe_types.specs.declared.topology.Topology.{Topology}
use Rattle.pipe_model.specs.History.{History}
use Rattle.plain_lives.specs.Lives.{LivesStand}
use Rattle.plain_places.specs.Standing.{TablesStand}
use Rattle.plain_works.specs.Works.{WorksStand}
use Rattle.pipe_replay.specs.Rows.{SettledStand}
use Rattle.pipe_replay.specs.declared.state.State.{State}

pub record StateStands (topology : Topology) (before : History) (state : State) : Type 0 where
  pub lives : LivesStand topology before state.lives
  pub tables : TablesStand topology before state.tables
  pub works : WorksStand topology before state.works
  pub settled : SettledStand topology before state.settled.items
