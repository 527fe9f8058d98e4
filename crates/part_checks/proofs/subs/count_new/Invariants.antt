use Rattle.std.proofs.Common.{◌≤◌}
use Rattle.part_checks.proofs.subs.count_new.Given as goal

abbrev pub invariant-loop-place : goal.invariant-loop-place
invariant-loop-place l = l.count ≤ l.place
