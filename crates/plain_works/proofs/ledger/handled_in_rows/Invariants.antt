use Rattle.std.proofs.Common.{◌≡◌, ◌+◌, drop}
use Rattle.plain_works.specs.Works.{handled_by}
use Rattle.plain_works.proofs.ledger.handled_in_rows.Given as goal

abbrev pub invariant-loop-row : goal.invariant-loop-row
invariant-loop-row l = l.count + handled_by (drop l.row-index l.rows) l.sub ≡ handled_by l.rows l.sub
