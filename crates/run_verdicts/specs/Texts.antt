-- The texts of a run.
use Rattle.std.specs.Prelude.{ℕ, List, ◌++◌}
use Rattle.pipe_types.specs.declared.topology.Topology.{Topology}
use Rattle.pipe_model.specs.History.{History}
use Rattle.journal_texts.specs.Steps.{journal_text}
use Rattle.journal_texts.specs.Report.{report_text}
use Rattle.journal_texts.specs.Acks.{ack_text}
use Rattle.run_verdicts.specs.Verdicts.{shown}
use Rattle.run_verdicts.specs.declared.verdict.Shows.{Shows}

-- the journal and the acknowledgements, where they are shown, and then the report
abbrev pub run_text : Shows → Topology → History → List ℕ
run_text shows topology before = shown shows.steps (journal_text before) ++ (shown shows.acks (ack_text topology before) ++ report_text topology before)
