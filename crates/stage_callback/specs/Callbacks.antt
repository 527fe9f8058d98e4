-- What callbacks answer, beside the definition of the built-in handlers.
use Rattle.std.specs.Prelude.{◌≡◌, ◌<◌, ◌+◌, ◌^◌, ◌⊎◌, ℕ, Bool, true, false, ◌&&◌, ◌||◌, ◌==◌, nat_lt, nat_le, List, [], ◌∷◌, ◌++◌, length, Option, Some, None, Result, Ok, Err}
use Rattle.std.specs.List.{list_all}
use Rattle.pipe_types.specs.declared.message.Message.{Message}
use Rattle.pipe_types.specs.declared.message.Reply.{Reply}
use Rattle.pipe_types.specs.declared.message.Reply.TheVariants as reply
use Rattle.pipe_types.specs.declared.message.BatchReply.{BatchReply}
use Rattle.pipe_types.specs.declared.message.BatchReply.TheVariants as batch
use Rattle.pipe_types.specs.declared.topology.Rule.{Rule}
use Rattle.pipe_types.specs.declared.topology.Rule.TheVariants as rule
use Rattle.pipe_types.specs.declared.topology.StageSpec.{StageSpec}
use Rattle.pipe_types.specs.Counts.{Rose}
use Rattle.pipe_types.specs.Lines.{max_bytes}
use Rattle.pipe_types.specs.Handlers.{is_own_reason, is_own_outcome, is_successful, lines_where}
use Rattle.stage_callback.specs.declared.answers.Prepared.{Prepared}
use Rattle.stage_callback.specs.declared.answers.Prepared.TheVariants as prepared
use Rattle.stage_callback.specs.declared.answers.FailedReply.{FailedReply}
use Rattle.stage_callback.specs.declared.answers.FailedReply.TheVariants as failed
use Rattle.stage_callback.specs.declared.answers.Said.{Said}

-- Conditions

-- a count is compared with a multiple of at least 1
abbrev pub is_countable : Rule → Bool
is_countable (rule.FailEvery every) = nat_lt 0 every
is_countable _ = true

-- a route names a batcher below `batchers`
abbrev pub routes_below : (batchers : ℕ) → Rule → Bool
routes_below batchers (rule.Route n batcher value) = nat_lt batcher batchers
routes_below batchers _ = true

-- a callback may be armed with this spec
abbrev pub can_arm : StageSpec → Bool
can_arm spec = list_all is_countable spec.rules && list_all (routes_below spec.batchers) spec.rules

-- a message for one of the stage's batchers, with a payload and a key that are not too long
abbrev pub is_message_for : (batchers : ℕ) → Message → Bool
is_message_for batchers m =
    (m.batcher == 0 || nat_lt m.batcher batchers) && (nat_le (length m.payload) max_bytes && nat_le (length m.key) max_bytes)

-- Shapes of answers

abbrev pub is_passed : Reply → Bool
is_passed (reply.Pass m) = true
is_passed _ = false

abbrev pub is_ready : Prepared → Bool
is_ready prepared.Ready = true
is_ready _ = false

-- a batch was answered, and every message is successful
abbrev pub is_all_successful : BatchReply → Bool
is_all_successful (batch.Answered outcomes text) = list_all is_successful outcomes
is_all_successful _ = false

-- no answer gives the reason `sink`
abbrev pub is_prepared_answer : Prepared → Bool
is_prepared_answer (prepared.Raised why) = is_own_reason why
is_prepared_answer _ = true

-- one outcome a message
abbrev pub is_batch_answer : List Message → BatchReply → Bool
is_batch_answer messages (batch.Answered outcomes text) = length outcomes == length messages && list_all is_own_outcome outcomes
is_batch_answer messages (batch.Raised why) = is_own_reason why
is_batch_answer messages batch.Crashed = true

abbrev pub is_failed_answer : FailedReply → Bool
is_failed_answer (failed.Replace why) = is_own_reason why
is_failed_answer _ = true

-- the text of a user's own callback: the payload and LF of each successful message
abbrev pub HasOwnText : List Message → BatchReply → Type 0
HasOwnText messages (batch.Answered outcomes text) = text ≡ lines_where is_successful messages outcomes
HasOwnText messages _ = Unit {0}

-- the stage's own reason, where it has one, in place of a failed message's
abbrev pub failed_reply : (failed : Option (List ℕ)) → FailedReply
failed_reply (Some why) = failed.Replace why
failed_reply None = failed.Keep

-- What a callback tells

-- the answers so far, and this call's
abbrev pub said_with : {A E : Type 0} → (A → Said) → List Said → Result A E → List Said
said_with answer said (Ok a) = said ++ answer a ∷ []
said_with answer said (Err e) = said
