-- What a control line asks for, and what a reading adds to a journal.
use Rattle.std.specs.Prelude.{ℕ, ◌+◌, [], ◌∷◌}
use Rattle.pipe_types.specs.declared.step.DrainCause.TheVariants.{Control}
use Rattle.pipe_types.specs.declared.step.SourceHow.TheVariants.{Limit}
use Rattle.pipe_types.specs.declared.step.Step.{Step}
use Rattle.pipe_types.specs.declared.step.Step.TheVariants as step
use Rattle.pipe_types.specs.declared.topology.Topology.{Topology}
use Rattle.pipe_types.specs.Numbers.{stage}
use Rattle.pipe_model.specs.History.{History, controls}
use Rattle.pipe_model.specs.Outside.{control_reading}
use Rattle.stage_bodies.specs.declared.job.Outcome.{Outcome}
use Rattle.stage_bodies.specs.declared.job.Outcome.TheVariants.{Records, Ended}
use Rattle.control_lines.specs.declared.orders.Order.{Order}
use Rattle.control_lines.specs.declared.orders.Order.TheVariants.{Kill, Drain, Refuse}

-- the step of the line with this number
abbrev pub step_for : (number : ℕ) → Order → Step
step_for number (Kill s why) = step.Kill s why
step_for number Drain = step.Drain Control
step_for number Refuse = step.Refuse number

-- the journal after a reading: with the step of the line, with the end of the control source, or as it was
abbrev pub with_reading : Topology → History → Outcome → History
with_reading topology before (Records (line ∷ lines)) = control_reading topology before (controls before + 1) line ∷ before
with_reading topology before (Ended how) = step.SourceEnd (stage 0) how ∷ before
with_reading topology before _ = before

-- the source itself does not end by the limit
abbrev pub IsReading : Outcome → Type 0
IsReading (Ended Limit) = ⊥
IsReading _ = Unit {0}
