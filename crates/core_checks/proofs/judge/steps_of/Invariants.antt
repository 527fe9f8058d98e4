use Rattle.std.proofs.Common.{◌≡◌, reverse, take}
use Rattle.core_checks.proofs.judge.steps_of.Given as goal

abbrev pub invariant-loop-at : goal.invariant-loop-at
invariant-loop-at l = l.steps.items ≡ take l.at (reverse l.journal.steps)
