-- What a step does to what was last taken and to what was last started, and the message that is seen.
use Rattle.std.specs.Prelude.{ℕ, ◌==◌, ◌&&◌, if◌then◌else◌, Option, Some}
use Rattle.pipe_types.specs.declared.numbers.StageNo.{StageNo}
use Rattle.pipe_types.specs.declared.numbers.SubNo.{SubNo}
use Rattle.pipe_types.specs.declared.step.Step.{Step}
use Rattle.pipe_types.specs.declared.step.Step.TheVariants.{Take, Child}
use Rattle.pipe_types.specs.declared.message.Message.{Message}
use Rattle.pipe_types.specs.Numbers.{same_stage}
use Rattle.pipe_model.specs.Content.{new_message}
use Rattle.plain_counts.specs.declared.contents.Seen.{Seen}
use Rattle.plain_counts.specs.declared.contents.Seen.TheVariants.{Accepted, Passed}

abbrev pub last_take_after : Step → StageNo → Option (SubNo × ℕ) → Option (SubNo × ℕ)
last_take_after (Take t u k) s old = if same_stage s t then Some (u, k) else old
last_take_after _ s old = old

abbrev pub in_slot_after : Step → StageNo → ℕ → Option ℕ → Option ℕ
in_slot_after (Child t m k) s slot old = if same_stage s t && k == slot then Some m.0 else old
in_slot_after _ s slot old = old

-- the message that is seen
abbrev pub message_seen : Seen → Message
message_seen (Accepted s n bytes) = new_message s n bytes.now
message_seen (Passed m) = m.now
