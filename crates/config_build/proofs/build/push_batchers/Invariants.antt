use Rattle.std.proofs.Common.{◌≡◌, ◌+◌, ◌≤◌, ◌++◌, drop}
use Rattle.config_build.specs.Build.{batcher_stages}
use Rattle.config_build.proofs.build.push_batchers.Given as goal

abbrev pub invariant-loop-i : goal.invariant-loop-i
invariant-loop-i l =
    (l.stages.items ++ batcher_stages l.before l.next l.i (drop l.i l.batchers) ≡ l.initial.stages.items ++ batcher_stages l.before l.fn.next 0 l.batchers)
    × (l.next ≤ 256 + l.i)
