-- The end of a batch that the law of a callback allows.
use Rattle.std.specs.Prelude.{◌≡◌, ℕ, Bool, List, [], ◌∷◌, IsTrue}
use Rattle.pipe_types.specs.declared.numbers.MsgNo.{MsgNo}
use Rattle.pipe_types.specs.declared.message.Batch.{Batch}
use Rattle.pipe_types.specs.declared.message.Message.{Message}
use Rattle.pipe_types.specs.declared.message.Outcome.{Outcome}
use Rattle.pipe_types.specs.declared.message.Outcome.TheVariants.{Successful, Failed}
use Rattle.pipe_types.specs.declared.message.BatchEnd.{BatchEnd}
use Rattle.pipe_types.specs.declared.message.BatchEnd.TheVariants.{Outcomes, Crashed}
use Rattle.pipe_types.specs.declared.message.BatchReply.{BatchReply}
use Rattle.pipe_types.specs.declared.message.BatchReply.TheVariants as batch
use Rattle.pipe_model.specs.Work.{is_write_end}
use Rattle.stage_callback.specs.Laws.{KeepsBatch, Law}
use Rattle.stage_job.specs.Lawful.{IsReasonLeft}
use Rattle.stage_bodies.specs.Told.{raised_with}

-- the outcome of a message stays, and where it failed, with the reason that `failed` left
abbrev pub IsSettled : Law → MsgNo → (given settled : Outcome) → Type 0
IsSettled law number Successful Successful = Unit {0}
IsSettled law number (Failed why) (Failed reason) = IsReasonLeft law number why reason
IsSettled law number _ _ = ⊥

-- so of each message of a batch
abbrev pub AreSettled : Law → List Message → (given settled : List Outcome) → Type 0
AreSettled law [] [] [] = Unit {0}
AreSettled law (m ∷ messages) (o ∷ given) (s ∷ settled) = IsSettled law m.no o s × AreSettled law messages given settled
AreSettled law _ _ _ = ⊥

-- the end and the text of a batch by the answer to it
abbrev pub IsEndBy : Law → List Message → BatchReply → BatchEnd → (text : List ℕ) → Type 0
IsEndBy law messages (batch.Answered given answered) (Outcomes settled) text = AreSettled law messages given settled × (text ≡ answered)
IsEndBy law messages (batch.Raised why) (Outcomes settled) text = AreSettled law messages (raised_with why messages) settled × (text ≡ [])
IsEndBy law messages batch.Crashed Crashed text = text ≡ []
IsEndBy law messages _ _ text = ⊥

-- the end and the text of a batch, before a sink has a say
pub record IsLawfullyHandled (law : Law) (asked : Batch) (handled : BatchEnd) (text : List ℕ) : Type 0 where
  pub reply : BatchReply
  pub lawful : KeepsBatch law asked reply
  pub by : IsEndBy law asked.messages reply handled text

-- the end of a batch with this text, of which so many bytes were written
pub record IsLawfulEnd (law : Law) (asked : Batch) (has_sink : Bool) (text : List ℕ) (bytes : ℕ) (end : BatchEnd) : Type 0 where
  pub handled : BatchEnd
  pub lawful : IsLawfullyHandled law asked handled text
  pub written : IsTrue (is_write_end has_sink handled text bytes end)
