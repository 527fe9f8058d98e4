-- The step at a place of the journal, and the records and replies in it.
use Rattle.std.specs.Prelude.{ℕ, List, [], ◌∷◌, Option, Some, None, reverse, slice_get}
use Rattle.pipe_types.specs.declared.step.Step.{Step}
use Rattle.pipe_types.specs.declared.step.Step.TheVariants.{Accept, Done, ChildEnd, Late}
use Rattle.pipe_types.specs.declared.step.LateAnswer.TheVariants.{Records}
use Rattle.pipe_types.specs.declared.message.Reply.{Reply}
use Rattle.pipe_model.specs.History.{History}

-- the records that the step brings in
abbrev pub records_of : Step → List (List ℕ)
records_of (Accept s records) = records
records_of (Late s slot i (Records records)) = records
records_of _ = []

-- the replies to a chunk, or the one reply of a child
abbrev pub replies_of : Step → List Reply
replies_of (Done s replies) = replies
replies_of (ChildEnd s slot reply) = reply ∷ []
replies_of _ = []

-- the step at that place from 0, the oldest first
abbrev pub step_at : History → ℕ → Option Step
step_at steps at = slice_get (reverse steps) at

-- the item at that place of the list that the step has, where there is a step
abbrev pub item_of : {X : Type 0} → (Step → List X) → Option Step → ℕ → Option X
item_of list None item = None
item_of list (Some step) item = slice_get (list step) item

-- the record at that place of the step at that place
abbrev pub payload_at : History → ℕ → ℕ → Option (List ℕ)
payload_at steps at item = item_of records_of (step_at steps at) item

-- the reply at that place of the step at that place
abbrev pub reply_at : History → ℕ → ℕ → Option Reply
reply_at steps at item = item_of replies_of (step_at steps at) item
