use Rattle.std.proofs.Common.{◌≡◌, map}
use Rattle.core_checks.specs.Limits.{bare}
use Rattle.core_checks.proofs.limits.give_limits.Given as goal

abbrev pub invariant-loop-word : goal.invariant-loop-word
invariant-loop-word l = map bare l.stages.items ≡ map bare l.fn.stages.items
