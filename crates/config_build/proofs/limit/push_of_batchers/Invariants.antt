use Rattle.std.proofs.Common.{◌≡◌, ◌++◌, drop, flat_map}
use Rattle.config_build.specs.Limits.{own_limits, batcher_limits}
use Rattle.config_build.proofs.limit.push_of_batchers.Given as goal

abbrev pub invariant-loop-batcher : goal.invariant-loop-batcher
invariant-loop-batcher l = l.limits.items ++ flat_map (own_limits l.settings) (batcher_limits (drop l.batcher-index l.batchers)) ≡ l.initial.limits.items ++ flat_map (own_limits l.settings) (batcher_limits l.batchers)
