-- What a callback makes of a batch, and a sink of its text.
use Rattle.std.specs.Prelude.{◌≡◌, ◌≢◌, ◌<◌, ◌⊎◌, ℕ, Bool, true, false, if◌then◌else◌, List, [], ◌∷◌, ◌++◌, length, map, IsTrue, Some}
use Rattle.std.specs.List.{list_all}
use Rattle.pipe_types.specs.Counts.{Rose}
use Rattle.pipe_types.specs.Handlers.{batch_answer_by, count_after_batch, end_by, text_by, outcome_with, is_own_outcome, is_own_end, is_successful}
use Rattle.pipe_types.specs.declared.message.Message.{Message}
use Rattle.pipe_types.specs.declared.message.Outcome.{Outcome}
use Rattle.pipe_types.specs.declared.message.Outcome.TheVariants.{Successful, Failed}
use Rattle.pipe_types.specs.declared.message.BatchEnd.{BatchEnd}
use Rattle.pipe_types.specs.declared.message.BatchEnd.TheVariants.{Crashed}
use Rattle.pipe_types.specs.declared.message.BatchReply.{BatchReply}
use Rattle.pipe_types.specs.declared.topology.Kind.TheVariants.{Own}
use Rattle.pipe_model.specs.Work.{sink_reason, failed_by_sink, own_text}
use Rattle.stage_callback.specs.Callbacks.{is_batch_answer, is_all_successful, is_failed_answer, failed_reply, HasOwnText}
use Rattle.stage_callback.specs.declared.answers.FailedReply.{FailedReply}
use Rattle.stage_callback.specs.declared.answers.Said.{Said}
use Rattle.stage_callback.specs.declared.answers.Said.TheVariants as said
use Rattle.stage_job.specs.Chunks.{never_crashes}
use Rattle.stage_bodies.specs.Seen.{BoxSeen}
use Rattle.stage_job.specs.Told.{before}
use Rattle.stage_bodies.specs.Told.{outcomes_by, end_told, text_told}
use Rattle.stage_bodies.specs.Jobs.{KeepsBox, is_bad_end}

-- the answer to a batch
pub record Asks (messages : List Message) (reply : BatchReply) (old new : BoxSeen) : Type 0 where
  pub kept : KeepsBox old new
  pub shape : IsTrue (is_batch_answer messages reply)
  pub built_in : old.kind ≢ Own → (reply ≡ batch_answer_by old.kind old.spec old.count messages) × (new.count ≡ count_after_batch old.spec old.count messages)
  pub own_text : old.kind ≡ Own → HasOwnText messages reply
  pub calls : old.kind ≡ Own → Rose old.calls new.calls
  pub bad : old.kind ≡ Own → is_all_successful reply ≡ false → Rose old.bad new.bad
  pub answered : IsTrue old.told → new.said ≡ old.said ++ said.Batch reply ∷ []

-- the answer to a message that failed
pub record AsksFailed (by : FailedReply) (old new : BoxSeen) : Type 0 where
  pub kept : KeepsBox old new
  pub built_in : old.kind ≢ Own → (by ≡ failed_reply old.spec.failed) × (new.count ≡ old.count)
  pub own : old.kind ≡ Own → IsTrue (is_failed_answer by)
  pub answered : IsTrue old.told → new.said ≡ old.said ++ said.Failed by ∷ []

-- these outcomes, with the reasons that `failed` leaves the messages that failed
pub record Settles (outcomes settled : List Outcome) (old new : BoxSeen) : Type 0 where
  pub kept : KeepsBox old new
  pub built_in : old.kind ≢ Own → (settled ≡ map (outcome_with old.spec.failed) outcomes) × (new.count ≡ old.count)
  pub own : old.kind ≡ Own → IsTrue (list_all is_own_outcome outcomes) → IsTrue (list_all is_own_outcome settled)
  pub same : map is_successful settled ≡ map is_successful outcomes
  pub by_answers :
      IsTrue old.told
      → (answers : List Said) × (new.said ≡ old.said ++ answers)
      × ((others : List Outcome) (later : List Said) → outcomes_by (outcomes ++ others) (answers ++ later) ≡ before settled (outcomes_by others later))

-- the end of a batch and its text, before a sink has a say
pub record Handles (messages : List Message) (end : BatchEnd) (text : List ℕ) (old new : BoxSeen) : Type 0 where
  pub kept : KeepsBox old new
  pub no_text : end ≡ Crashed → text ≡ []
  pub built_in :
      old.kind ≢ Own
      → (end ≡ end_by old.spec.failed messages (batch_answer_by old.kind old.spec old.count messages))
      × (text ≡ text_by (batch_answer_by old.kind old.spec old.count messages))
      × (new.count ≡ count_after_batch old.spec old.count messages)
  pub own : old.kind ≡ Own → IsTrue (is_own_end messages end) × (text ≡ own_text messages end)
  pub calm : old.kind ≢ Own → IsTrue (never_crashes old.spec.rules) → end ≢ Crashed
  pub calls : old.kind ≡ Own → Rose old.calls new.calls
  pub bad : old.kind ≡ Own → is_bad_end end ≡ true → Rose old.bad new.bad
  pub by_answers : IsTrue old.told → (answers : List Said) × (new.said ≡ old.said ++ answers) × (end_told messages answers ≡ Some end) × (text ≡ text_told answers)

-- success becomes the sink's failure
abbrev pub by_sink : Outcome → Outcome
by_sink Successful = Failed sink_reason
by_sink (Failed why) = Failed why

-- all of the text was written where there is a sink, or less, and each success fails
abbrev pub IsWritten : (has_sink : Bool) → (handled : BatchEnd) → (text : List ℕ) → (bytes : ℕ) → BatchEnd → Type 0
IsWritten has_sink handled text bytes end =
    ((bytes ≡ (if has_sink then length text else 0)) × (end ≡ handled))
    ⊎ ((has_sink ≡ true) × (bytes < length text) × (end ≡ failed_by_sink handled))
