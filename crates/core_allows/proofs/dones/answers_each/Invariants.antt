use Rattle.std.proofs.Common.{◌≡◌, ◌≤◌, drop, length}
use Rattle.core_allows.specs.Tested.{answers_each}
use Rattle.core_allows.proofs.dones.answers_each.Given as goal

-- what is left answers what is left of the chunk
abbrev pub invariant-loop-k : goal.invariant-loop-k
invariant-loop-k l =
    record {
      left : answers_each (drop l.k l.chunk) (drop l.k l.replies) ≡ answers_each l.chunk l.replies;
      within : l.k ≤ length l.chunk;
    }
