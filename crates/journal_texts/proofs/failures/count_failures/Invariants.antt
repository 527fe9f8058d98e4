use Rattle.std.proofs.Common.{take}
use Rattle.std.specs.List.{filter_map}
use Rattle.journal_texts.specs.Report.{reason_of}
use Rattle.journal_texts.specs.Failures.{AreFailures}
use Rattle.journal_texts.proofs.failures.count_failures.Given as goal

-- the messages so far
abbrev pub invariant-loop-at : goal.invariant-loop-at
invariant-loop-at l = AreFailures (filter_map reason_of (take l.at l.places.items)) l.failed
