-- The row of an acknowledged message.
use Rattle.std.specs.Prelude.{ℕ, length, Option, Some, None, ◌∷◌}
use Rattle.pipe_types.specs.declared.numbers.StageNo.{StageNo}
use Rattle.pipe_types.specs.declared.topology.Topology.{Topology}
use Rattle.pipe_types.specs.declared.message.Place.{Place}
use Rattle.pipe_types.specs.declared.message.Place.TheVariants.{Acked}
use Rattle.pipe_types.specs.declared.step.Step.{Step}
use Rattle.pipe_types.specs.Handlers.{is_successful}
use Rattle.pipe_types.specs.Numbers.{message_no}
use Rattle.pipe_model.specs.History.{History}
use Rattle.pipe_model.specs.Content.{producer_of}
use Rattle.pipe_model.specs.Flow.{place}
use Rattle.pipe_journal.specs.declared.acked.AckRow.{AckRow}

-- of the message that stands so, where it is acknowledged, by the step at this place
abbrev pub ack_row : Option Place → Option StageNo → (at n : ℕ) → Option AckRow
ack_row (Some (Acked outcome)) (Some p) at n = Some (record { no = message_no n; producer = p; successful = is_successful outcome; at = at })
ack_row _ _ at n = None

-- of the message behind the step
abbrev pub row_after : Topology → History → Step → ℕ → Option AckRow
row_after topology before step n = ack_row (place topology (step ∷ before) n) (producer_of (step ∷ before) n) (length before) n
