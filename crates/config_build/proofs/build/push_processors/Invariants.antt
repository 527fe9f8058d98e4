use Rattle.std.proofs.Common.{◌≡◌, ◌-◌, ◌++◌, map}
use Rattle.config_build.specs.Build.{processor_stage, places}
use Rattle.config_build.proofs.build.push_processors.Given as goal

abbrev pub invariant-loop-i : goal.invariant-loop-i
invariant-loop-i l =
    l.stages.items ++ map (processor_stage l.known l.processors l.before l.limit) (places l.i (l.count - l.i))
    ≡ l.initial.stages.items ++ map (processor_stage l.known l.processors l.before l.limit) (places 0 l.processors.concurrency)
