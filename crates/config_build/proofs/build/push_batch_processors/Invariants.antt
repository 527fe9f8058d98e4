use Rattle.std.proofs.Common.{◌≡◌, ◌-◌, ◌++◌, map}
use Rattle.config_build.specs.Build.{batch_processor_stage, places}
use Rattle.config_build.proofs.build.push_batch_processors.Given as goal

abbrev pub invariant-loop-i : goal.invariant-loop-i
invariant-loop-i l =
    l.stages.items ++ map (batch_processor_stage l.number l.batcher l.before l.limit) (places l.i (l.count - l.i))
    ≡ l.initial.stages.items ++ map (batch_processor_stage l.number l.batcher l.before l.limit) (places 0 l.batcher.concurrency)
