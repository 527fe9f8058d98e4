use Rattle.std.proofs.Common.{◌≡◌, ◌++◌, take}
use Rattle.pipe_journal.proofs.kept.Kept.add_records.Given as goal

-- the records so far
abbrev pub invariant-loop-record : goal.invariant-loop-record
invariant-loop-record l =
    record { added : l.self.records ≡ l.initial.self.records ++ take l.record-index l.records; same : l.self.replies ≡ l.initial.self.replies }
