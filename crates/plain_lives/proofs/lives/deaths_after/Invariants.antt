use Rattle.std.proofs.Common.{◌≡◌, ◌++◌, drop}
use Rattle.plain_lives.specs.Lives.{kept}
use Rattle.plain_lives.proofs.lives.deaths_after.Given as goal

abbrev pub invariant-loop-death : goal.invariant-loop-death
invariant-loop-death l = l.deaths.items ++ kept l.step (drop l.death-index l.old) ≡ l.fn.killed.items ++ kept l.step l.old
