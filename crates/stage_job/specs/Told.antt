-- The replies that a callback's answers make, where it tells them.
use Rattle.std.specs.Prelude.{◌≡◌, ℕ, List, [], ◌∷◌, ◌++◌, Option, Some, None}
use Rattle.pipe_types.specs.declared.message.Reply.{Reply}
use Rattle.pipe_types.specs.declared.message.Reply.TheVariants as reply
use Rattle.stage_callback.specs.declared.answers.Prepared.TheVariants as prepared
use Rattle.stage_callback.specs.declared.answers.FailedReply.{FailedReply}
use Rattle.stage_callback.specs.declared.answers.FailedReply.TheVariants as failed
use Rattle.stage_callback.specs.declared.answers.Said.{Said}
use Rattle.stage_callback.specs.declared.answers.Said.TheVariants as said

-- the reason that an answer to a failed message leaves
abbrev pub reason_by : FailedReply → (why : List ℕ) → List ℕ
reason_by (failed.Replace other) why = other
reason_by failed.Keep why = why
reason_by failed.Raised why = why

-- one more in front of these, if they are there
abbrev pub one_more : {A : Type 0} → A → Option (List A) → Option (List A)
one_more x (Some xs) = Some (x ∷ xs)
one_more x None = None

-- all of these in front of those, if they are there
abbrev pub before : {A : Type 0} → List A → Option (List A) → Option (List A)
before [] later = later
before (x ∷ xs) later = one_more x (before xs later)

-- the replies to messages: what was answered to each, and to one that failed what `failed` answered then; none where an answer is
-- left over
abbrev pub replies_by : List Said → Option (List Reply)
replies_by [] = Some []
replies_by (said.Message (reply.Pass m) ∷ answers) = one_more (reply.Pass m) (replies_by answers)
replies_by (said.Message (reply.Failed why) ∷ said.Failed by ∷ answers) = one_more (reply.Failed (reason_by by why)) (replies_by answers)
replies_by (said.Message (reply.Raised why) ∷ said.Failed by ∷ answers) = one_more (reply.Raised (reason_by by why)) (replies_by answers)
replies_by (said.Message reply.Crashed ∷ answers) = one_more reply.Crashed (replies_by answers)
replies_by _ = None

-- the replies where each message failed with one reason; none where an answer is left over
abbrev pub raised_by : (why : List ℕ) → List Said → Option (List Reply)
raised_by why [] = Some []
raised_by why (said.Failed by ∷ answers) = one_more (reply.Raised (reason_by by why)) (raised_by why answers)
raised_by why _ = None

-- the replies to a chunk that was shown first, and to none at all; none where an answer is left over
abbrev pub chunk_by : List Said → Option (List Reply)
chunk_by [] = Some []
chunk_by (said.Prepared prepared.Ready ∷ answers) = replies_by answers
chunk_by (said.Prepared (prepared.Raised why) ∷ answers) = raised_by why answers
chunk_by (said.Prepared prepared.Crashed ∷ []) = Some (reply.Crashed ∷ [])
chunk_by _ = None

-- these answers make this one reply, whatever is answered later
abbrev pub MakeReply : List Said → Reply → Type 0
MakeReply answers reply = (later : List Said) → replies_by (answers ++ later) ≡ one_more reply (replies_by later)
