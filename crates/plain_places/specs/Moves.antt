-- What a step does to places and to batches, one by one.
use Rattle.std.specs.Prelude.{ℕ, ◌+◌, ◌==◌, Bool, false, if◌then◌else◌, List, [], ◌∷◌, length, Option, None, Some, option_map}
use Rattle.pipe_types.specs.declared.numbers.StageNo.{StageNo}
use Rattle.pipe_types.specs.declared.topology.Topology.{Topology}
use Rattle.pipe_types.specs.declared.message.Outcome.{Outcome}
use Rattle.pipe_types.specs.declared.message.BatchEnd.TheVariants.{Outcomes}
use Rattle.pipe_types.specs.declared.message.Reply.{Reply}
use Rattle.pipe_types.specs.declared.message.Place.{Place}
use Rattle.pipe_types.specs.declared.message.Place.TheVariants.{Waiting}
use Rattle.pipe_types.specs.declared.step.Step.{Step}
use Rattle.pipe_types.specs.declared.step.Step.TheVariants.{Accept, Dispatch, Take, Done, Gather, Close, Wrote, Child, ChildEnd, Kill, Late, Halt}
use Rattle.pipe_types.specs.declared.step.LateAnswer.TheVariants.{Records}
use Rattle.pipe_types.specs.declared.room.Sent.{Sent as SentUnit}
use Rattle.pipe_types.specs.Stages.{spec_of}
use Rattle.pipe_model.specs.History.{History, incarnation, accepted, closed}
use Rattle.pipe_model.specs.Posts.{in_slot, crashes}
use Rattle.pipe_model.specs.Lives.{KillSet, death, kill_set}
use Rattle.pipe_model.specs.Content.{has_crash}
use Rattle.pipe_model.specs.Batches as model
use Rattle.pipe_model.specs.Flow.{View, sends_by, lost_over, alone_by, next_units, chunk_by, closing, batch_after, dispatched, taken, done, gathered, put_in_batch, by_batch, killed, child_ended, accepted_to, late_place, runs_again, has_batchers_in, subs_of, among, change_place, new_batch}

-- where a step moves the messages that stand somewhere
pub data PlaceMove : Type 0 where
  Kept : PlaceMove
  Dispatched : (units : List SentUnit) → (over alone : List ℕ) → StageNo → PlaceMove
  Taken : (units : List ℕ) → StageNo → PlaceMove
  Answered : (has_batchers : Bool) → (chunk : List ℕ) → (replies : List Reply) → StageNo → PlaceMove
  Gathered : StageNo → ℕ → PlaceMove
  PutInBatch : (numbers : List ℕ) → StageNo → ℕ → PlaceMove
  ByBatch : (batch : ℕ → Option model.Batch) → PlaceMove
  ChildEnded : (again : Bool) → (ended : Option ℕ) → StageNo → (incarnation : ℕ) → Reply → PlaceMove
  Killed : KillSet → (batch : ℕ → Option model.Batch) → PlaceMove

-- so many messages are accepted to one place, or messages move
pub data PlaceChange : Type 0 where
  Added : (count : ℕ) → Place → PlaceChange
  Moved : PlaceMove → PlaceChange

-- where a step moves the batches that stand somewhere
pub data BatchMove : Type 0 where
  Stays : BatchMove
  SentOn : (units : List SentUnit) → (alone : List ℕ) → StageNo → BatchMove
  TakenIn : (units : List ℕ) → StageNo → BatchMove
  AnsweredIn : StageNo → List Outcome → BatchMove
  KilledIn : KillSet → BatchMove

-- a batch of these messages is closed, or batches move
pub data BatchChange : Type 0 where
  Closed : (numbers : List ℕ) → StageNo → BatchChange
  BatchesMoved : BatchMove → BatchChange

-- whether the message that a slot ran runs again, should it have crashed
abbrev pub again_in : Topology → History → StageNo → (ended : Option ℕ) → Bool
again_in topology before s None = false
again_in topology before s (Some m) = runs_again (spec_of topology s) (crashes before m)

-- the replies to a chunk move its messages, unless one of them is a crash
abbrev pub done_move : Topology → View → StageNo → List Reply → PlaceMove
done_move topology view s replies =
    if has_crash replies then Kept else Answered (has_batchers_in (spec_of topology s)) (chunk_by view s) replies s

-- the end of a child moves its message
abbrev pub child_move : Topology → History → StageNo → (slot : ℕ) → Reply → PlaceMove
child_move topology before s slot reply =
    ChildEnded (again_in topology before s (in_slot before s slot)) (in_slot before s slot) s (incarnation before s) reply

-- what a step does to places
abbrev pub place_change : Topology → History → View → Step → PlaceChange
place_change topology before view (Accept s records) = Added (length records) (Waiting s)
place_change topology before view (Late s slot i (Records records)) = Added (length records) (late_place s i (death topology before s))
place_change topology before view (Dispatch s) = Moved (Dispatched (sends_by topology before view s) (lost_over topology before view s) (alone_by topology before view s) s)
place_change topology before view (Take s u k) = Moved (Taken (next_units topology view s u k) s)
place_change topology before view (Done s replies) = Moved (done_move topology view s replies)
place_change topology before view (Gather s m) = Moved (Gathered s m.0)
place_change topology before view (Close s first trigger) = Moved (PutInBatch (closing before view s first.0) s (closed before + 1))
place_change topology before view (Wrote s bytes end) = Moved (ByBatch (batch_after topology before view (Wrote s bytes end)))
place_change topology before view (Child s m slot) = Moved (Taken (m.0 ∷ []) s)
place_change topology before view (ChildEnd s slot reply) = Moved (child_move topology before s slot reply)
place_change topology before view (Kill s why) =
    Moved (Killed (kill_set topology before (Kill s why)) (batch_after topology before view (Kill s why)))
place_change topology before view Halt = Moved (Killed (kill_set topology before Halt) (batch_after topology before view Halt))
place_change topology before view _ = Moved Kept

-- what a step does to batches
abbrev pub batch_change : Topology → History → View → Step → BatchChange
batch_change topology before view (Close s first trigger) = Closed (closing before view s first.0) s
batch_change topology before view (Dispatch s) = BatchesMoved (SentOn (sends_by topology before view s) (alone_by topology before view s) s)
batch_change topology before view (Take s u k) = BatchesMoved (TakenIn (next_units topology view s u k) s)
batch_change topology before view (Wrote s bytes (Outcomes outcomes)) = BatchesMoved (AnsweredIn s outcomes)
batch_change topology before view (Kill s why) = BatchesMoved (KilledIn (kill_set topology before (Kill s why)))
batch_change topology before view Halt = BatchesMoved (KilledIn (kill_set topology before Halt))
batch_change topology before view _ = BatchesMoved Stays

-- where message n goes
abbrev pub moved_by : History → PlaceMove → ℕ → Place → Place
moved_by before Kept n place = place
moved_by before (Dispatched units over alone s) n place = dispatched units over alone s n place
moved_by before (Taken units s) n place = taken units s n place
moved_by before (Answered b chunk replies s) n place = done b chunk replies s n place
moved_by before (Gathered s m) n place = gathered s m n place
moved_by before (PutInBatch numbers s b) n place = put_in_batch numbers s b n place
moved_by before (ByBatch batch) n place = by_batch batch n place
moved_by before (ChildEnded again ended s i reply) n place = child_ended again ended s i reply n place
moved_by before (Killed set batch) n place = by_batch batch n (killed set (incarnation before) place)

-- what a change makes of message n, which may not be there yet
abbrev pub place_changed : History → PlaceChange → ℕ → Option Place → Option Place
place_changed before (Added count new) n old = accepted_to (accepted before) count new n old
place_changed before (Moved move) n old = option_map (moved_by before move n) old

-- how many messages there are after a change
abbrev pub count_changed : PlaceChange → ℕ → ℕ
count_changed (Added count new) old = old + count
count_changed (Moved move) old = old

-- where batch b goes
abbrev pub batch_place_moved : History → BatchMove → ℕ → model.BatchPlace → model.BatchPlace
batch_place_moved before Stays b place = place
batch_place_moved before (SentOn units alone s) b place = model.batch_sent s (among alone b) (subs_of units b) place
batch_place_moved before (TakenIn units s) b place = if among units b then model.batch_on_legs (model.leg_taken s) place else place
batch_place_moved before (AnsweredIn s outcomes) b place = model.batch_on_legs (model.leg_answered s outcomes) place
batch_place_moved before (KilledIn set) b place = model.batch_killed set (incarnation before) place

-- the batch after its move
abbrev pub batch_moved : History → BatchMove → ℕ → model.Batch → model.Batch
batch_moved before move b batch = change_place batch (batch_place_moved before move b batch.place)

-- what a change makes of batch b, which may not be there yet
abbrev pub batch_changed : History → BatchChange → ℕ → Option model.Batch → Option model.Batch
batch_changed before (Closed numbers s) b old = new_batch (b == closed before + 1) numbers s old
batch_changed before (BatchesMoved move) b old = option_map (batch_moved before move b) old

-- how many batches there are after a change
abbrev pub closed_changed : BatchChange → ℕ → ℕ
closed_changed (Closed numbers s) old = old + 1
closed_changed (BatchesMoved move) old = old

-- what a step sends
abbrev pub sent_by : Topology → History → View → Step → List SentUnit
sent_by topology before view (Dispatch s) = sends_by topology before view s
sent_by topology before view _ = []
