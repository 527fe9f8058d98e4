use Rattle.std.proofs.Common.{◌≤◌, length, drop}
use Rattle.ack_texts.specs.Groups.{Late}
use Rattle.ack_texts.proofs.groups.rows_from.Given as goal

-- those behind it are late
abbrev pub invariant-rows : goal.invariant-rows
invariant-rows l = record {
  within : l.count ≤ length l.rows;
  late : Late l.at (drop l.count l.rows);
}

abbrev pub decreases-rows : goal.decreases-rows
decreases-rows l = l.count
