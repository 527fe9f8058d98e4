use Rattle.std.proofs.Common.{◌≡◌, take}
use Rattle.std.specs.Prelude.{count_by}
use Rattle.journal_audit.specs.Counts.{is_among}
use Rattle.journal_audit.proofs.summary.count.Given as goal

-- those so far
abbrev pub invariant-loop-at : goal.invariant-loop-at
invariant-loop-at l = l.count ≡ count_by (is_among l.which) (take l.at l.places.items)
