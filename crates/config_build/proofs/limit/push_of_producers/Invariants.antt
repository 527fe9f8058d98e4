use Rattle.std.proofs.Common.{◌≡◌, ◌++◌, drop, flat_map}
use Rattle.config_build.specs.Limits.{own_limits, producer_limits}
use Rattle.config_build.proofs.limit.push_of_producers.Given as goal

abbrev pub invariant-loop-producer : goal.invariant-loop-producer
invariant-loop-producer l = l.limits.items ++ flat_map (own_limits l.settings) (producer_limits (drop l.producer-index l.producers)) ≡ l.initial.limits.items ++ flat_map (own_limits l.settings) (producer_limits l.producers)
