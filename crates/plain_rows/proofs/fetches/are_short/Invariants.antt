use Rattle.std.proofs.Common.{◌≡◌, drop, length}
use Rattle.std.specs.Prelude.{nat_le}
use Rattle.std.specs.List.{list_all}
use Rattle.pipe_types.specs.Lines.{max_bytes}
use Rattle.plain_rows.proofs.fetches.are_short.Given as goal

abbrev pub invariant-loop-record : goal.invariant-loop-record
invariant-loop-record l = list_all (λ r. nat_le (length r) max_bytes) (drop l.record-index l.records) ≡ list_all (λ r. nat_le (length r) max_bytes) l.records
