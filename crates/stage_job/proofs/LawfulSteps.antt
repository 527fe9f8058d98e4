-- Replies that the law of a callback allows, message by message.
use Rattle.std.proofs.Common.{◌≡◌, ◌<◌, ◌+◌, ℕ, false, List, [], ◌∷◌, ◌++◌, length, drop, get_or, cond, ◌==◌, refl, ap, sym, ◌∙◌, append_assoc, append-nil, count_by, arith}
use Rattle.std.proofs.lemmas.List.{drop_more}
use Rattle.std.proofs.lemmas.List.Sums.{sum_by-append}
use Rattle.pipe_types.specs.declared.message.Message.{Message}
use Rattle.pipe_types.specs.declared.message.Reply.{Reply}
use Rattle.pipe_types.specs.declared.message.Reply.TheVariants.{Raised}
use Rattle.stage_callback.specs.Callbacks.{is_passed}
use Rattle.stage_callback.specs.declared.answers.FailedReply.{FailedReply}
use Rattle.stage_callback.specs.declared.answers.Said.{Said}
use Rattle.stage_callback.specs.declared.answers.Said.TheVariants as said
use Rattle.stage_callback.specs.Laws.{Law}
use Rattle.stage_job.specs.Lawful.{AreRepliesTo, AreLawful, AreLawfulReplies}
use Rattle.stage_job.specs.Told.{one_more, raised_by, reason_by}

-- replies to the rest make with those so far replies to the chunk
pub record RepliesSoFar (R : Message → Reply → Type 0) (messages rest : List Message) (replies : List Reply) : Type 0 where
  pub made : (later : List Reply) → AreRepliesTo R rest later → AreRepliesTo R messages (replies ++ later)

pub none_so_far : (R : Message → Reply → Type 0) (messages : List Message) → RepliesSoFar R messages messages []
none_so_far R messages = record { made = λ later are. are }

-- one more
pub reply_next : (R : Message → Reply → Type 0) (messages : List Message) (m : Message) (left rest : List Message) (replies replies_then : List Reply) (reply : Reply)
    → left ≡ m ∷ rest → replies_then ≡ replies ++ reply ∷ [] → R m reply → RepliesSoFar R messages left replies → RepliesSoFar R messages rest replies_then
reply_next R messages m left rest replies replies_then reply next grown is so_far = record {
  made = λ later are.
      let with_next : AreRepliesTo R (m ∷ rest) (reply ∷ later) = (is, are) in
      let all : AreRepliesTo R messages (replies ++ (reply ∷ later)) = so_far.made (reply ∷ later) (rw next with_next) in
      rw (grown, append_assoc replies (reply ∷ []) later) all;
}

-- these are replies to the chunk
pub all_replied : (R : Message → Reply → Type 0) (messages left : List Message) (replies : List Reply) → RepliesSoFar R messages left replies → AreRepliesTo R messages replies
all_replied R messages left replies so_far =
    let all : AreRepliesTo R messages (replies ++ []) = so_far.made [] tt in
    rw (append-nil replies) at all

-- a chunk of at least one message
pub some_lawful : (law : Law) (messages : List Message) (replies : List Reply) → (length messages == 0) ≡ false → AreLawfulReplies law messages replies → AreLawful law messages replies
some_lawful law [] replies some are = cc
some_lawful law (m ∷ messages) replies some are = are

-- ---- a chunk that failed as a whole

-- the rest begins with the next message
pub next_left : (messages : List Message) (i : ℕ) (m : Message) → i < length messages → m ≡ get_or messages i m → drop i messages ≡ m ∷ drop (i + 1) messages
next_left messages i m within is = drop_more messages i m within ∙ ap (λ x. x ∷ drop (i + 1) messages) (sym is)

-- what was told of one message makes one reply
pub raised_more : (why reason : List ℕ) (now then : List Said) → (by : FailedReply) × (then ≡ now ++ said.Failed by ∷ []) × (reason ≡ reason_by by why)
    → (more : List Said) × (then ≡ now ++ more) × ((later : List Said) → raised_by why (more ++ later) ≡ one_more (Raised reason) (raised_by why later))
raised_more why reason now then (by, grows, is) = (said.Failed by ∷ [], grows, λ later. ap (λ w. one_more (Raised w) (raised_by why later)) (sym is))

-- none passed
pub none_more : (replies replies_then : List Reply) (reason : List ℕ) → replies_then ≡ replies ++ Raised reason ∷ [] → count_by is_passed replies ≡ 0 → count_by is_passed replies_then ≡ 0
none_more replies replies_then reason grown none =
    let both : count_by is_passed (replies ++ Raised reason ∷ []) ≡ count_by is_passed replies + (0 + 0) = sum_by-append (λ (r : Reply). cond (is_passed r) 1 0) replies (Raised reason ∷ []) in
    rw grown (omega (arith, both, none))
