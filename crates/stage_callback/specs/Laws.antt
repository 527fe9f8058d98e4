-- What a callback says of its answers.
use Rattle.std.specs.Prelude.{◌≡◌, ◌≤◌, ◌+◌, ◌^◌, ◌⊎◌, ◌&&◌, ℕ, Bool, List, [], ◌∷◌, nat_le, Contains, IsTrue, Option, Some, None}
use Rattle.std.specs.List.{list_all, list_any}
use Rattle.pipe_types.specs.Handlers.{text_by}
use Rattle.pipe_types.specs.declared.numbers.MsgNo.{MsgNo}
use Rattle.pipe_types.specs.declared.message.Batch.{Batch}
use Rattle.pipe_types.specs.declared.message.BatchReply.{BatchReply}
use Rattle.pipe_types.specs.declared.message.Message.{Message}
use Rattle.pipe_types.specs.declared.message.Reply.{Reply}
use Rattle.pipe_types.specs.declared.message.Reply.TheVariants.{Pass, Failed, Raised, Crashed}
use Rattle.stage_callback.specs.declared.answers.FailedReply.{FailedReply}
use Rattle.stage_callback.specs.declared.answers.Prepared.{Prepared}

-- what a callback says of its replies to messages: each is one of these, a message that passes keeps its payload, or the payload
-- that passes has bytes of these ranges alone
pub data MessageForm : Type 0 where
  replies_among : List (Message × Reply) → MessageForm
  payload_stays : MessageForm
  payload_within : (ranges : List (ℕ × ℕ)) → MessageForm

-- of its answers to batches: each is one of these, or the text has bytes of these ranges alone
pub data BatchForm : Type 0 where
  answers_among : List (Batch × BatchReply) → BatchForm
  text_within : (ranges : List (ℕ × ℕ)) → BatchForm

-- what it says of its answers, to a message, to a chunk, to a batch, and to a message that failed for a reason. It is plain data,
-- so that whoever holds the callback may hold it too
pub record Law : Type 0 where
  pub messages : List MessageForm
  pub chunks : Option (List (List Message × Prepared))
  pub batches : List BatchForm
  pub failures : Option (List (MsgNo × (List ℕ × FailedReply)))

-- it says nothing
abbrev pub free : Law
free = record { messages = []; chunks = None; batches = []; failures = None }

-- ---- meanings

abbrev pub is_within : (ranges : List (ℕ × ℕ)) → (byte : ℕ) → Bool
is_within ranges byte = list_any (λ range. nat_le range.0 byte && nat_le byte range.1) ranges

-- no form forbids a crash
abbrev pub Allows : MessageForm → Message → Reply → Type 0
Allows (replies_among known) m Crashed = Unit {0}
Allows (replies_among known) m answer = Contains known (m, answer)
Allows payload_stays m (Pass passed) = passed.payload ≡ m.payload
Allows payload_stays m _ = Unit {0}
Allows (payload_within ranges) m (Pass passed) = IsTrue (list_all (is_within ranges) passed.payload)
Allows (payload_within ranges) m _ = Unit {0}

abbrev pub AllAllow : List MessageForm → Message → Reply → Type 0
AllAllow [] m answer = Unit {0}
AllAllow (form ∷ forms) m answer = Allows form m answer × AllAllow forms m answer

abbrev pub AllowsBatch : BatchForm → Batch → BatchReply → Type 0
AllowsBatch (answers_among known) asked answer = Contains known (asked, answer)
AllowsBatch (text_within ranges) asked answer = IsTrue (list_all (is_within ranges) (text_by answer))

abbrev pub AllAllowBatch : List BatchForm → Batch → BatchReply → Type 0
AllAllowBatch [] asked answer = Unit {0}
AllAllowBatch (form ∷ forms) asked answer = AllowsBatch form asked answer × AllAllowBatch forms asked answer

abbrev pub IsAmong : {A : Type 0} → Option (List A) → A → Type 0
IsAmong None a = Unit {0}
IsAmong (Some known) a = Contains known a

-- the law allows this reply to a message
abbrev pub Keeps : Law → Message → Reply → Type 0
Keeps law m answer = AllAllow law.messages m answer

-- the law allows this answer to a chunk
abbrev pub KeepsChunk : Law → List Message → Prepared → Type 0
KeepsChunk law messages answer = IsAmong law.chunks (messages, answer)

-- the law allows this answer to a batch
abbrev pub KeepsBatch : Law → Batch → BatchReply → Type 0
KeepsBatch law asked answer = AllAllowBatch law.batches asked answer

-- the law allows this answer to a message that failed for this reason
abbrev pub KeepsFailed : Law → MsgNo → (why : List ℕ) → FailedReply → Type 0
KeepsFailed law number why answer = IsAmong law.failures (number, (why, answer))

-- ---- counts

-- a count is greater by just so many, or its counter is full
abbrev pub RoseExactly : (times : ℕ) → ℕ → ℕ → Type 0
RoseExactly times before now = (now ≡ before + times) ⊎ (2 ^ 64 ≤ now + 1)
