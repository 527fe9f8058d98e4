-- The replies to a chunk that the law of a callback allows.
use Rattle.std.specs.Prelude.{◌≡◌, ℕ, List, [], ◌∷◌}
use Rattle.pipe_types.specs.declared.numbers.MsgNo.{MsgNo}
use Rattle.pipe_types.specs.declared.message.Message.{Message}
use Rattle.pipe_types.specs.declared.message.Reply.{Reply}
use Rattle.pipe_types.specs.declared.message.Reply.TheVariants as reply
use Rattle.stage_callback.specs.declared.answers.FailedReply.{FailedReply}
use Rattle.stage_callback.specs.declared.answers.Prepared.{Prepared}
use Rattle.stage_callback.specs.declared.answers.Prepared.TheVariants as prepared
use Rattle.stage_callback.specs.Laws.{Keeps, KeepsChunk, KeepsFailed, Law}
use Rattle.stage_job.specs.Told.{reason_by}

-- the reason of a message that failed for another one: what `failed` made of that
pub record IsReasonLeft (law : Law) (number : MsgNo) (why reason : List ℕ) : Type 0 where
  pub answered : FailedReply
  pub lawful : KeepsFailed law number why answered
  pub is : reason ≡ reason_by answered why

-- the reply to a message: what was answered to it, and where it failed, with the reason that `failed` left
abbrev pub IsLawful : Law → Message → Reply → Type 0
IsLawful law m (reply.Pass passed) = Keeps law m (reply.Pass passed)
IsLawful law m (reply.Failed reason) = (why : List ℕ) × Keeps law m (reply.Failed why) × IsReasonLeft law m.no why reason
IsLawful law m (reply.Raised reason) = (why : List ℕ) × Keeps law m (reply.Raised why) × IsReasonLeft law m.no why reason
IsLawful law m reply.Crashed = Keeps law m reply.Crashed

-- the reply to a message of a chunk that failed as a whole
abbrev pub IsRaised : Law → (why : List ℕ) → Message → Reply → Type 0
IsRaised law why m (reply.Raised reason) = IsReasonLeft law m.no why reason
IsRaised law why m _ = ⊥

-- each reply is so related to its message, in order; there may be more messages
abbrev pub AreRepliesTo : (Message → Reply → Type 0) → List Message → List Reply → Type 0
AreRepliesTo R messages [] = Unit {0}
AreRepliesTo R [] (r ∷ replies) = ⊥
AreRepliesTo R (m ∷ messages) (r ∷ replies) = R m r × AreRepliesTo R messages replies

-- the replies to a chunk to which this was answered before its messages
abbrev pub AreRepliesBy : Law → Prepared → List Message → List Reply → Type 0
AreRepliesBy law prepared.Ready messages replies = AreRepliesTo (IsLawful law) messages replies
AreRepliesBy law (prepared.Raised why) messages replies = AreRepliesTo (IsRaised law why) messages replies
AreRepliesBy law prepared.Crashed messages replies = replies ≡ reply.Crashed ∷ []

-- the replies to a chunk
pub record AreLawfulReplies (law : Law) (messages : List Message) (replies : List Reply) : Type 0 where
  pub shown : Prepared
  pub lawful : KeepsChunk law messages shown
  pub by : AreRepliesBy law shown messages replies

-- the same, and none where there is no message: then nothing is asked
abbrev pub AreLawful : Law → List Message → List Reply → Type 0
AreLawful law [] replies = replies ≡ []
AreLawful law messages replies = AreLawfulReplies law messages replies
