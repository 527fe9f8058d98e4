-- What a kill takes with it, stage by stage, and what that makes of messages, of legs and of batches.
use Rattle.std.specs.Prelude.{ℕ, List, Option, Some, None, slice_get}
use Rattle.pipe_types.specs.declared.numbers.StageNo.{StageNo}
use Rattle.pipe_types.specs.declared.message.Why.{Why}
use Rattle.pipe_types.specs.declared.message.Loss.{Loss}
use Rattle.pipe_types.specs.declared.message.Loss.TheVariants.{Killed}
use Rattle.pipe_types.specs.declared.message.Place.{Place}
use Rattle.pipe_types.specs.declared.message.Place.TheVariants.{Waiting, Inbox, Running, Gathered, Lost}
use Rattle.core_tables.specs.declared.rows.StageRow.{StageRow}
use Rattle.core_state.specs.Readings.{incarnation_by}

-- the incarnation in the stage's row, and 1 past the end
abbrev pub incarnation_at : List StageRow → StageNo → ℕ
incarnation_at rows s = incarnation_by (slice_get rows s.0)

-- how what stands in a stage is lost, where the stage is killed
abbrev pub loss_in : (incarnation : ℕ) → StageNo → Option Why → Option Loss
loss_in i s None = None
loss_in i s (Some why) = Some (Killed s i why)

-- Messages

-- how a message is lost with the stage in which it stands
abbrev pub place_loss : (why : StageNo → Option Why) → (incarnation : StageNo → ℕ) → Place → Option Loss
place_loss why incarnation (Waiting s) = loss_in (incarnation s) s (why s)
place_loss why incarnation (Inbox u) = loss_in (incarnation u.consumer) u.consumer (why u.consumer)
place_loss why incarnation (Running s) = loss_in (incarnation s) s (why s)
place_loss why incarnation (Gathered s) = loss_in (incarnation s) s (why s)
place_loss why incarnation place = None

abbrev pub lost_to : Option Loss → Place → Place
lost_to None place = place
lost_to (Some loss) place = Lost loss

-- where a message stands after the kill, if it is in no batch
abbrev pub place_lost : (why : StageNo → Option Why) → (incarnation : StageNo → ℕ) → Place → Place
place_lost why incarnation place = lost_to (place_loss why incarnation place) place

-- a message that is lost now has the mark
abbrev pub marked_to : Option Loss → (mark : ℕ) → ℕ → ℕ
marked_to None mark old = old
marked_to (Some loss) mark old = mark

abbrev pub loss_at : (why : StageNo → Option Why) → (incarnation : StageNo → ℕ) → Option Place → Option Loss
loss_at why incarnation None = None
loss_at why incarnation (Some place) = place_loss why incarnation place
