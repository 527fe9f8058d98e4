use Rattle.std.proofs.Common.{◌≡◌, ◌+◌, ◌≤◌, ◌++◌, drop}
use Rattle.config_judge.specs.Judge.{batch_processor_count}
use Rattle.config_build.specs.Build.{batch_processor_stages}
use Rattle.config_build.proofs.build.push_batch_processor_groups.Given as goal

abbrev pub invariant-loop-i : goal.invariant-loop-i
invariant-loop-i l =
    (l.stages.items ++ batch_processor_stages l.before l.next l.i (drop l.i l.batchers) ≡ l.initial.stages.items ++ batch_processor_stages l.fn.before l.fn.next 0 l.batchers)
    × ((l.before + batch_processor_count (drop l.i l.batchers) ≤ 256) × ((batch_processor_count (drop l.i l.batchers) ≤ 64) × (l.next ≤ 256 + l.i)))
