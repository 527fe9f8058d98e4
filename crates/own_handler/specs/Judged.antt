-- What a box of a handler answers, by what its handler answered: the same, or where the shape is wrong a crash.
use Rattle.std.specs.Prelude.{◌≡◌, ℕ, Bool, false, List, [], ◌∷◌, ◌++◌, length, replicate, ◌==◌, ◌&&◌, if◌then◌else◌}
use Rattle.std.specs.List.{list_all}
use Rattle.pipe_types.specs.declared.numbers.MsgNo.{MsgNo}
use Rattle.pipe_types.specs.declared.numbers.StageNo.{StageNo}
use Rattle.pipe_types.specs.declared.message.Message.{Message}
use Rattle.pipe_types.specs.declared.message.Outcome.{Outcome}
use Rattle.pipe_types.specs.declared.message.Outcome.TheVariants as outcome
use Rattle.pipe_types.specs.declared.message.Reply.{Reply}
use Rattle.pipe_types.specs.declared.message.Reply.TheVariants as reply
use Rattle.pipe_types.specs.declared.message.BatchReply.{BatchReply}
use Rattle.pipe_types.specs.declared.message.BatchReply.TheVariants as batch
use Rattle.pipe_types.specs.Handlers.{is_own_reason, is_own_reply, is_own_outcome, is_successful, lines_where, counted}
use Rattle.stage_callback.specs.declared.answers.Prepared.{Prepared}
use Rattle.stage_callback.specs.declared.answers.Prepared.TheVariants as prepared
use Rattle.stage_callback.specs.declared.answers.FailedReply.{FailedReply}
use Rattle.stage_callback.specs.declared.answers.FailedReply.TheVariants as failed
use Rattle.stage_callback.specs.Laws.{Law, MessageForm, free}
use Rattle.own_handler.specs.declared.handler.BatchAnswer.{BatchAnswer}
use Rattle.own_handler.specs.declared.handler.BatchAnswer.TheVariants as answer

-- a chunk is not failed for the reason of a sink
abbrev pub judged_prepared : Prepared → Prepared
judged_prepared (prepared.Raised why) = if is_own_reason why then prepared.Raised why else prepared.Crashed
judged_prepared given = given

-- a message of which nothing but the number and the producer is said
abbrev pub bare : MsgNo → StageNo → Message
bare number from = record { payload = []; key = []; no = number; producer = from; batcher = 0; flush = false }

-- the same message, for one of the stage's batchers, not too long, or a reason of one's own
abbrev pub judged_reply : (batchers : ℕ) → Message → Reply → Reply
judged_reply batchers m given = if is_own_reply batchers m given then given else reply.Crashed

-- a reply is what the handler gave, as it is or as a crash
pub record IsJudged (gives : Reply → Type 0) (batchers : ℕ) (m : Message) (answered : Reply) : Type 0 where
  pub given : Reply
  pub meant : gives given
  pub is : answered ≡ judged_reply batchers m given

-- the law of a box, by what its handler says of replies to messages
abbrev pub law_of : List MessageForm → Law
law_of forms = record free { messages = forms }

-- an outcome for each message, none with the reason of a sink; the text is the payload and LF of each successful message
abbrev pub judged_outcomes : List Message → List Outcome → BatchReply
judged_outcomes messages outcomes =
    if length outcomes == length messages && list_all is_own_outcome outcomes
    then batch.Answered outcomes (lines_where is_successful messages outcomes)
    else batch.Crashed

abbrev pub judged_raised : (why : List ℕ) → BatchReply
judged_raised why = if is_own_reason why then batch.Raised why else batch.Crashed

abbrev pub judged_batch : List Message → BatchAnswer → BatchReply
judged_batch messages answer.Successful = judged_outcomes messages (replicate (length messages) outcome.Successful)
judged_batch messages (answer.Each outcomes) = judged_outcomes messages outcomes.items
judged_batch messages (answer.Raised why) = judged_raised why
judged_batch messages answer.Crashed = batch.Crashed

-- the old reason stays in place of the reason of a sink
abbrev pub judged_failed : FailedReply → FailedReply
judged_failed (failed.Replace why) = if is_own_reason why then failed.Replace why else failed.Raised
judged_failed given = given

-- the payload and LF of a message whose outcome passes the test
abbrev pub line_where : (Outcome → Bool) → Message → Outcome → List ℕ
line_where test m o = if test o then m.payload ++ 10 ∷ [] else []

-- a count of answers other than success
abbrev pub counted_unless : (success : Bool) → (count : ℕ) → ℕ
counted_unless success count = if success then count else counted count 1
