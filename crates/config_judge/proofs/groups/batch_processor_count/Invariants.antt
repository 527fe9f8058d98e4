use Rattle.std.proofs.Common.{◌≡◌, ◌+◌, ◌-◌, ◌^◌, ◌≤◌, min, drop}
use Rattle.config_judge.specs.Judge.{batch_processor_count}
use Rattle.config_judge.proofs.groups.batch_processor_count.Given as goal

abbrev pub invariant-loop-batcher : goal.invariant-loop-batcher
invariant-loop-batcher l =
    (min (l.count + batch_processor_count (drop l.batcher-index l.batchers)) (2 ^ 64 - 1) ≡ min (batch_processor_count l.batchers) (2 ^ 64 - 1)) × (l.count ≤ 2 ^ 64 - 1)
