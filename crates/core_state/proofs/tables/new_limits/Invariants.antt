use Rattle.std.proofs.Common.{◌≡◌, map, take}
use Rattle.core_state.specs.Begun.{unmade}
use Rattle.core_state.proofs.tables.new_limits.Given as goal

abbrev pub invariant-loop-limit : goal.invariant-loop-limit
invariant-loop-limit l = l.restarts.items ≡ map unmade (take l.limit-index l.limits)
