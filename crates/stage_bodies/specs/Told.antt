-- How a batch ends by the answers of its callback, where it tells them.
use Rattle.std.specs.Prelude.{ℕ, List, [], ◌∷◌, map, Option, Some, None}
use Rattle.pipe_types.specs.declared.message.Message.{Message}
use Rattle.pipe_types.specs.declared.message.Outcome.{Outcome}
use Rattle.pipe_types.specs.declared.message.Outcome.TheVariants.{Successful, Failed}
use Rattle.pipe_types.specs.declared.message.BatchEnd.{BatchEnd}
use Rattle.pipe_types.specs.declared.message.BatchEnd.TheVariants.{Outcomes, Crashed}
use Rattle.pipe_types.specs.declared.message.BatchReply.TheVariants as batch
use Rattle.stage_callback.specs.declared.answers.Said.{Said}
use Rattle.stage_callback.specs.declared.answers.Said.TheVariants as said
use Rattle.stage_job.specs.Told.{one_more, reason_by}

-- the outcomes that stay: of each message that failed with the reason that `failed` left it; none where an answer is left over
abbrev pub outcomes_by : List Outcome → List Said → Option (List Outcome)
outcomes_by [] [] = Some []
outcomes_by (Successful ∷ outcomes) answers = one_more Successful (outcomes_by outcomes answers)
outcomes_by (Failed why ∷ outcomes) (said.Failed by ∷ answers) = one_more (Failed (reason_by by why)) (outcomes_by outcomes answers)
outcomes_by _ _ = None

-- a raise fails every message
abbrev pub raised_with : (why : List ℕ) → List Message → List Outcome
raised_with why messages = map (λ m. Failed why) messages

-- outcomes, if they are there, as an end
abbrev pub end_with : Option (List Outcome) → Option BatchEnd
end_with (Some outcomes) = Some (Outcomes outcomes)
end_with None = None

-- the end of a batch of these messages by the answer to it and those to its failed messages, whatever the sink does; none where
-- an answer is left over
abbrev pub end_told : List Message → List Said → Option BatchEnd
end_told messages (said.Batch (batch.Answered outcomes text) ∷ answers) = end_with (outcomes_by outcomes answers)
end_told messages (said.Batch (batch.Raised why) ∷ answers) = end_with (outcomes_by (raised_with why messages) answers)
end_told messages (said.Batch batch.Crashed ∷ []) = Some Crashed
end_told messages _ = None

-- the text that was answered
abbrev pub text_told : List Said → List ℕ
text_told (said.Batch (batch.Answered outcomes text) ∷ answers) = text
text_told _ = []
