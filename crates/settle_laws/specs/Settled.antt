-- What a step acknowledges, and the messages that it may acknowledge.
use Rattle.std.specs.Prelude.{ℕ, Bool, List, [], ◌∷◌, filter, not, ◌&&◌, Option, Some, None, option_map, option_to_list}
use Rattle.std.specs.List.{flat_map, filter_map}
use Rattle.pipe_types.specs.declared.numbers.StageNo.{StageNo}
use Rattle.pipe_types.specs.declared.topology.Topology.{Topology}
use Rattle.pipe_types.specs.declared.numbers.MsgNo.{MsgNo}
use Rattle.pipe_types.specs.declared.message.Outcome.{Outcome}
use Rattle.pipe_types.specs.declared.message.Place.{Place}
use Rattle.pipe_types.specs.declared.message.Place.TheVariants.{Acked}
use Rattle.pipe_types.specs.Numbers.{message_no}
use Rattle.message_ack.specs.declared.verdicts.Verdict.{Verdict}
use Rattle.pipe_types.specs.declared.step.Step.{Step}
use Rattle.pipe_types.specs.declared.step.Step.TheVariants.{Dispatch, Done, Wrote, ChildEnd}
use Rattle.pipe_model.specs.History.{History, accepted}
use Rattle.pipe_model.specs.Posts.{in_slot}
use Rattle.pipe_model.specs.Content.{producer_of}
use Rattle.pipe_model.specs.Flow.{place, batch, view_of, chunk_by, numbers_in, alone}
use Rattle.pipe_model.specs.Work.{taken_units}
use Rattle.pipe_model.specs.Acknowledgements.{numbers_upto, is_acked, is_producer}

-- the step acknowledges the message
abbrev pub is_newly : Topology → History → Step → ℕ → Bool
is_newly topology before step n = not (is_acked (place topology before n)) && is_acked (place topology (step ∷ before) n)

-- the messages that the last step acknowledged, ascending
abbrev pub settled_last : Topology → History → List ℕ
settled_last topology [] = []
settled_last topology (step ∷ before) = filter (is_newly topology before step) (numbers_upto (accepted (step ∷ before)))

-- the messages of these batches
abbrev pub messages_in : Topology → History → (batches : List ℕ) → List ℕ
messages_in topology before batches = flat_map (λ b. numbers_in (batch topology before b)) batches

-- the messages that the step may acknowledge: of the chunk, of the batch, of the child whose run ends, or of the batches that
-- are served on no subscription
abbrev pub touched : Topology → History → Step → List ℕ
touched topology before (Done s replies) = chunk_by (view_of topology before) s
touched topology before (Wrote s bytes end) = messages_in topology before (taken_units topology before s)
touched topology before (ChildEnd s slot reply) = option_to_list (in_slot before s slot)
touched topology before (Dispatch s) = messages_in topology before (alone topology before s)
touched topology before _ = []

-- of these messages the producer's that stand so
abbrev pub of_producer : Topology → History → List ℕ → StageNo → (side : Option Place → Bool) → List ℕ
of_producer topology before numbers p side = filter (λ n. is_producer (producer_of before n) p && side (place topology before n)) numbers

-- Rows and verdicts

-- number, producer and outcome of an acknowledged message
abbrev pub outcome_row : ℕ → Option StageNo → Option Place → Option (MsgNo × StageNo × Outcome)
outcome_row n (Some p) (Some (Acked outcome)) = Some (message_no n, p, outcome)
outcome_row n _ _ = None

abbrev pub row_of : Topology → History → Option ℕ → Option (MsgNo × StageNo × Outcome)
row_of topology before None = None
row_of topology before (Some n) = outcome_row n (producer_of before n) (place topology before n)

-- the verdict that a row is
abbrev pub verdict_in : MsgNo × StageNo × Outcome → Verdict
verdict_in row = record { no = row.0; producer = row.1; outcome = row.2 }

abbrev pub verdict_of : Topology → History → ℕ → Option Verdict
verdict_of topology before n = option_map verdict_in (row_of topology before (Some n))

-- the verdicts on those of these messages that are acknowledged, in their order
abbrev pub verdicts_of : Topology → History → List ℕ → List Verdict
verdicts_of topology before numbers = filter_map (verdict_of topology before) numbers
