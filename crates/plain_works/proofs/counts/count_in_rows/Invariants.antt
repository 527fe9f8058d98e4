use Rattle.std.proofs.Common.{◌≡◌, drop}
use Rattle.plain_works.specs.Works.{count_by}
use Rattle.plain_works.proofs.counts.count_in_rows.Given as goal

abbrev pub invariant-loop-row : goal.invariant-loop-row
invariant-loop-row l = count_by (drop l.row-index l.counts) l.stage ≡ count_by l.counts l.stage
