-- The changes that the code works with, as changes of the model, and the tables that they leave.
use Rattle.std.specs.Prelude.{◌≡◌, List, length}
use Rattle.pipe_types.specs.declared.topology.Topology.{Topology}
use Rattle.pipe_types.specs.declared.message.Place.{Place}
use Rattle.pipe_types.specs.declared.step.Step.{Step}
use Rattle.pipe_model.specs.History.{History, accepted as accepted_in, accepted_after, closed as closed_in, closed_after}
use Rattle.pipe_model.specs.Flow.{View, place_after, batch_after}
use Rattle.plain_queues.specs.declared.tables.BatchRow.{BatchRow}
use Rattle.plain_queues.specs.Views.{place_at, batch_at}
use Rattle.plain_places.specs.Moves as model
use Rattle.plain_places.specs.declared.moves.Move.{Move}
use Rattle.plain_places.specs.declared.moves.Move.TheVariants.{Kept, Dispatched, Taken, Answered, Gathered, PutInBatch, ByBatch, ChildEnded, Killed}
use Rattle.plain_places.specs.declared.places.Change.{Change}
use Rattle.plain_places.specs.declared.places.Change.TheVariants.{Added, Moved}
use Rattle.plain_places.specs.declared.batches.RowMove.{RowMove}
use Rattle.plain_places.specs.declared.batches.RowMove.TheVariants.{Stays, SentOn, TakenIn, AnsweredIn, KilledIn}
use Rattle.plain_places.specs.declared.batches.RowChange.{RowChange}
use Rattle.plain_places.specs.declared.batches.RowChange.TheVariants.{Closed, RowsMoved}

abbrev pub move_of : Move → model.PlaceMove
move_of Kept = model.Kept
move_of (Dispatched units over alone s) = model.Dispatched units.items over.items alone.items s
move_of (Taken units s) = model.Taken units.items s
move_of (Answered b chunk replies s) = model.Answered b chunk.items replies.now s
move_of (Gathered s m) = model.Gathered s m
move_of (PutInBatch numbers s b) = model.PutInBatch numbers.items s b
move_of (ByBatch rows) = model.ByBatch (batch_at rows.now)
move_of (ChildEnded again ended s i reply) = model.ChildEnded again ended s i reply.now
move_of (Killed set rows) = model.Killed set.items (batch_at rows.now)

abbrev pub change_of : Change → model.PlaceChange
change_of (Added count new) = model.Added count new
change_of (Moved move) = model.Moved (move_of move)

abbrev pub row_move_of : RowMove → model.BatchMove
row_move_of Stays = model.Stays
row_move_of (SentOn units alone s) = model.SentOn units.items alone.items s
row_move_of (TakenIn units s) = model.TakenIn units.items s
row_move_of (AnsweredIn s outcomes) = model.AnsweredIn s outcomes.now
row_move_of (KilledIn set) = model.KilledIn set.items

abbrev pub row_change_of : RowChange → model.BatchChange
row_change_of (Closed numbers s) = model.Closed numbers.items s
row_change_of (RowsMoved move) = model.BatchesMoved (row_move_of move)

-- the places after the step
pub record PlacesAfter (topology : Topology) (before : History) (view : View) (step : Step) (places : List Place) : Type 0 where
  pub place : place_at places ≡ place_after topology before view step
  pub accepted : length places ≡ accepted_after step (accepted_in before)

-- the batches after the step
pub record BatchesAfter (topology : Topology) (before : History) (view : View) (step : Step) (rows : List BatchRow) : Type 0 where
  pub batch : batch_at rows ≡ batch_after topology before view step
  pub closed : length rows ≡ closed_after step (closed_in before)
