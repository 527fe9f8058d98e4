use Rattle.std.proofs.Common.{◌≡◌, take}
use Rattle.pipe_model.specs.History.{bytes_in}
use Rattle.plain_counts.proofs.counts.bytes_of.Given as goal

abbrev pub invariant-loop-record : goal.invariant-loop-record
invariant-loop-record l = l.count ≡ bytes_in (take l.record-index l.records)
