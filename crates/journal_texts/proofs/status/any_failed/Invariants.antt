use Rattle.std.proofs.Common.{◌≡◌, drop}
use Rattle.std.specs.List.{list_any}
use Rattle.journal_texts.specs.Report.{is_failed}
use Rattle.journal_texts.proofs.status.any_failed.Given as goal

-- those that are left say what all say
abbrev pub invariant-loop-at : goal.invariant-loop-at
invariant-loop-at l = list_any is_failed (drop l.at l.places.items) ≡ list_any is_failed l.places.items
