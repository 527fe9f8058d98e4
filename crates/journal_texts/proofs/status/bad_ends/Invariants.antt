use Rattle.std.proofs.Common.{◌≡◌, take, reverse}
use Rattle.std.specs.List.{list_any}
use Rattle.pipe_model.specs.Legal.{is_halt}
use Rattle.journal_texts.specs.Report.{is_source_fault}
use Rattle.journal_texts.proofs.status.bad_ends.Given as goal

-- what the steps so far say
abbrev pub invariant-loop-at : goal.invariant-loop-at
invariant-loop-at l = (l.source_fault ≡ list_any is_source_fault (take l.at (reverse l.journal.steps))) × (l.halted ≡ list_any is_halt (take l.at (reverse l.journal.steps)))
