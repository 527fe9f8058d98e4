use Rattle.std.proofs.Common.{take}
use Rattle.std.specs.List.{flat_map}
use Rattle.pipe_types.specs.declared.step.Step.{Step}
use Rattle.pipe_model.specs.History.{History}
use Rattle.pipe_journal.specs.Acked.{AreAcked}
use Rattle.ack_texts.proofs.Entries.{line_by}
use Rattle.ack_texts.proofs.lines.put_group.Given as goal

-- the lines of the stages so far
abbrev pub invariant-loop-spec : goal.invariant-loop-spec
invariant-loop-spec g l = (before : History) (step : Step) → AreAcked l.topology before step l.rows → g.W.TextSink.puts l.fn.out l.out (flat_map (line_by l.topology before step) (take l.spec-index l.topology.stages))
