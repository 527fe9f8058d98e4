use Rattle.std.proofs.Common.{◌≡◌, ◌++◌, drop}
use Rattle.config_judge.specs.Judge.{batcher_names}
use Rattle.config_judge.proofs.names.batcher_names.Given as goal

abbrev pub invariant-loop-batcher : goal.invariant-loop-batcher
invariant-loop-batcher l = l.names.items ++ batcher_names (drop l.batcher-index l.batchers) ≡ batcher_names l.batchers
