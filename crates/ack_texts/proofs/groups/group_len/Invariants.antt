use Rattle.std.proofs.Common.{◌<◌, ◌≤◌, ◌-◌, length, take}
use Rattle.ack_texts.specs.Groups.{AreOf}
use Rattle.ack_texts.proofs.groups.group_len.Given as goal

-- those in front of it are of the step
abbrev pub invariant-rows : goal.invariant-rows
invariant-rows l = record {
  some : 0 < l.count;
  within : l.count ≤ length l.rows;
  same : AreOf l.at (take l.count l.rows);
}

abbrev pub decreases-rows : goal.decreases-rows
decreases-rows l = length l.rows - l.count
