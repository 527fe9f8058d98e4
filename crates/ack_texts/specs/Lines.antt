-- The lines of what a step acknowledges.
use Rattle.std.specs.Prelude.{ℕ, List, []}
use Rattle.std.specs.List.{flat_map}
use Rattle.pipe_types.specs.declared.topology.Topology.{Topology}
use Rattle.pipe_types.specs.declared.step.Step.{Step}
use Rattle.pipe_types.specs.Stages.{spec_of}
use Rattle.pipe_model.specs.History.{History}
use Rattle.pipe_model.specs.Acknowledgements.{Acknowledgement, acknowledged_by}
use Rattle.journal_texts.specs.Acks.{ack_line, name_in}

-- a line, where there is a number to write
abbrev pub line_if_any : (name : List ℕ) → (successful failed : List ℕ) → List ℕ
line_if_any name [] [] = []
line_if_any name successful failed = ack_line name successful failed

-- the line of an acknowledgement
abbrev pub line_of : Topology → Acknowledgement → List ℕ
line_of topology a = ack_line (name_in (spec_of topology a.producer)) a.successful a.failed

-- the lines of what the step acknowledges
abbrev pub step_acks : Topology → History → Step → List ℕ
step_acks topology before step = flat_map (line_of topology) (acknowledged_by topology before step)
