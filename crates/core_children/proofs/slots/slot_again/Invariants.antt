use Rattle.std.proofs.Common.{◌≡◌, ℕ, ◌<◌, None}
use Rattle.core_children.specs.Starts.{again_in}
use Rattle.core_children.proofs.slots.slot_again.Given as goal

abbrev pub invariant-loop-slot : goal.invariant-loop-slot
invariant-loop-slot l = (k : ℕ) → k < l.slot → again_in l.children l.posts l.stage k ≡ None
