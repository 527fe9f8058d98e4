use Rattle.std.proofs.Common.{◌≡◌, ◌+◌, ◌≤◌, ◌++◌, drop}
use Rattle.config_build.specs.Build.{producer_stages}
use Rattle.config_build.specs.Limits.{places_after, producer_limits}
use Rattle.config_build.proofs.build.push_producers.Given as goal

abbrev pub invariant-loop-i : goal.invariant-loop-i
invariant-loop-i l =
    (l.stages.items ++ producer_stages l.field l.parts l.next l.i (drop l.i l.producers) ≡ l.initial.stages.items ++ producer_stages l.field l.parts l.fn.next 0 l.producers)
    × ((places_after l.next (producer_limits (drop l.i l.producers)) ≡ places_after l.fn.next (producer_limits l.producers))
    × (l.next ≤ l.fn.next + l.i))
