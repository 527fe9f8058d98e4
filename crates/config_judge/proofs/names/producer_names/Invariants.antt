use Rattle.std.proofs.Common.{◌≡◌, ◌++◌, drop}
use Rattle.config_judge.specs.Judge.{producer_names}
use Rattle.config_judge.proofs.names.producer_names.Given as goal

abbrev pub invariant-loop-producer : goal.invariant-loop-producer
invariant-loop-producer l = l.names.items ++ producer_names (drop l.producer-index l.producers) ≡ producer_names l.producers
