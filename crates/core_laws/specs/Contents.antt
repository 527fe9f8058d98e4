-- A message as the journal has it where a row points.
use Rattle.std.specs.Prelude.{ℕ, List, Option, Some, None, unwrap_or}
use Rattle.pipe_types.specs.declared.numbers.StageNo.{StageNo}
use Rattle.pipe_types.specs.declared.message.Message.{Message}
use Rattle.pipe_types.specs.declared.message.Reply.{Reply}
use Rattle.pipe_types.specs.declared.message.Reply.TheVariants.{Pass}
use Rattle.pipe_types.specs.Numbers.{stage}
use Rattle.pipe_model.specs.History.{History}
use Rattle.pipe_model.specs.Content.{new_message}
use Rattle.pipe_journal.specs.Readers.{payload_at, reply_at}
use Rattle.core_tables.specs.declared.rows.ContentRow.{ContentRow}

-- the message that a reply passes on
abbrev pub passed_in : Option Reply → Option Message
passed_in (Some (Pass m)) = Some m
passed_in _ = None

-- the message that the reply at the row's place of the journal passes on
abbrev pub passed_by : History → Option ContentRow → Option Message
passed_by steps None = None
passed_by steps (Some row) = passed_in (reply_at steps row.entry row.item)

-- message n of the producer, where there is such a record, and else the message that the reply passes on
abbrev pub message_in : StageNo → ℕ → Option (List ℕ) → Option Reply → Option Message
message_in s n (Some bytes) reply = Some (new_message s n bytes)
message_in s n None reply = passed_in reply

-- message n of the producer at that place of the journal: a record of an Accept or of a late answer, or a reply of a Done
abbrev pub message_at : History → StageNo → ℕ → ContentRow → Option Message
message_at steps s n row = message_in s n (payload_at steps row.entry row.item) (reply_at steps row.entry row.item)

-- message n by the rows of its producer and of its content
abbrev pub message_by : History → Option StageNo → ℕ → Option ContentRow → Option Message
message_by steps producer n None = None
message_by steps producer n (Some row) = message_at steps (unwrap_or producer (stage 0)) n row
