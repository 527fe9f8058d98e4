-- Replies whose texts stand on shelves. No public clause cites this module.
use Rattle.std.specs.Prelude.{◌≡◌, ℕ, ◌+◌, ◌-◌, ◌<◌, ◌≤◌, List, [], ◌∷◌, ◌++◌, length, slice_get, Some, unwrap_or}
use Rattle.std.specs.Bool.{⊤}
use Rattle.pipe_types.specs.declared.message.Reply.{Reply}
use Rattle.pipe_journal.specs.declared.kept.KeptReply.{KeptReply}

-- the text at a place
abbrev pub text_at : List (List ℕ) → ℕ → List ℕ
text_at texts at = unwrap_or (slice_get texts at) []

-- the payload is the record that was accepted as this number
pub record IsRecord (records : List (List ℕ)) (n : ℕ) (payload : List ℕ) : Type 0 where
  pub least : 1 ≤ n
  pub is : slice_get records (n - 1) ≡ Some payload

-- the reply that is kept so
abbrev pub reply_of : (records words reasons : List (List ℕ)) → KeptReply → Reply
reply_of records words reasons (KeptReply.Same flush producer batcher n key) =
    Reply.Pass (record { payload = text_at records (n.0 - 1); key = text_at words key; no = n; producer = producer; batcher = batcher; flush = flush })
reply_of records words reasons (KeptReply.Changed flush producer batcher n key) =
    Reply.Pass (record { payload = text_at words (key + 1); key = text_at words key; no = n; producer = producer; batcher = batcher; flush = flush })
reply_of records words reasons (KeptReply.Failed why) = Reply.Failed (text_at reasons why)
reply_of records words reasons (KeptReply.Raised why) = Reply.Raised (text_at reasons why)
reply_of records words reasons KeptReply.Crashed = Reply.Crashed

-- each text that it names is there
abbrev pub IsFound : (records words reasons : List (List ℕ)) → KeptReply → Type 0
IsFound records words reasons (KeptReply.Same flush producer batcher n key) = (1 ≤ n.0) × (n.0 - 1 < length records) × (key < length words)
IsFound records words reasons (KeptReply.Changed flush producer batcher n key) = key + 1 < length words
IsFound records words reasons (KeptReply.Failed why) = why < length reasons
IsFound records words reasons (KeptReply.Raised why) = why < length reasons
IsFound records words reasons KeptReply.Crashed = ⊤

abbrev pub AreFound : (records words reasons : List (List ℕ)) → List KeptReply → Type 0
AreFound records words reasons [] = ⊤
AreFound records words reasons (kept ∷ others) = IsFound records words reasons kept × AreFound records words reasons others

-- the reply is kept so
pub record IsKept (records words reasons : List (List ℕ)) (kept : KeptReply) (reply : Reply) : Type 0 where
  pub is : reply_of records words reasons kept ≡ reply
  pub found : IsFound records words reasons kept
