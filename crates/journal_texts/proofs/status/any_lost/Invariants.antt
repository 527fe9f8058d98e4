use Rattle.std.proofs.Common.{◌≡◌, drop}
use Rattle.std.specs.List.{list_any}
use Rattle.journal_texts.specs.Report.{is_lost}
use Rattle.journal_texts.proofs.status.any_lost.Given as goal

-- those that are left say what all say
abbrev pub invariant-loop-at : goal.invariant-loop-at
invariant-loop-at l = list_any is_lost (drop l.at l.places.items) ≡ list_any is_lost l.places.items
