use Rattle.std.proofs.Common.{◌≡◌, ◌+◌, drop}
use Rattle.pipe_model.specs.History.{bytes_in}
use Rattle.core_lates.proofs.losses.bytes_of.Given as goal

abbrev pub invariant-loop-record : goal.invariant-loop-record
invariant-loop-record l =
    record {
      rest : l.bytes + bytes_in (drop l.record-index l.records) ≡ bytes_in l.records;
    }
