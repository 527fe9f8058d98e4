use Rattle.std.proofs.Common.{◌≡◌, ◌+◌, ◌++◌, take}
use Rattle.pipe_model.specs.Content.{numbers_from}
use Rattle.plain_counts.proofs.contents.push_records.Given as goal

abbrev pub invariant-loop-record : goal.invariant-loop-record
invariant-loop-record l = (l.units.items ≡ l.fn.old.items ++ numbers_from l.first (take l.record-index l.records)) × (l.next ≡ l.first + l.record-index)
