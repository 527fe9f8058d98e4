-- Tables that show what flows after a history.
use Rattle.std.specs.Prelude.{◌≡◌, length}
use Rattle.pipe_types.specs.declared.topology.Topology.{Topology}
use Rattle.pipe_model.specs.History.{History, accepted as accepted_in, closed as closed_in}
use Rattle.pipe_model.specs.Flow.{view_of}
use Rattle.plain_queues.specs.declared.tables.Tables.{Tables}
use Rattle.plain_queues.specs.Views.{view_in}

-- the tables show what the next step looks at, and have a row for each message accepted and each batch closed
pub record TablesStand (topology : Topology) (before : History) (tables : Tables) : Type 0 where
  pub view : view_in tables ≡ view_of topology before
  pub accepted : length tables.places.items ≡ accepted_in before
  pub closed : length tables.batches.items ≡ closed_in before
