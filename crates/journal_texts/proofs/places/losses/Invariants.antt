use Rattle.std.proofs.Common.{◌≡◌, take}
use Rattle.std.specs.List.{filter_map}
use Rattle.journal_texts.specs.Report.{loss_of}
use Rattle.journal_texts.proofs.places.losses.Given as goal

-- those so far
abbrev pub invariant-loop-at : goal.invariant-loop-at
invariant-loop-at l = l.found.items ≡ filter_map loss_of (take l.at l.places.items)
