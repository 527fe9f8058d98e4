use Rattle.std.proofs.Common.{◌≡◌, ℕ, ◌<◌, length, slice_get, Some}
use Rattle.message_ack.specs.Ends.{outcome_of_ends}
use Rattle.message_ack.proofs.legs.put_outcomes.Given as goal

-- the messages so far have theirs
abbrev pub invariant-loop-i : goal.invariant-loop-i
invariant-loop-i l =
    (length l.outcomes.items ≡ length l.initial.outcomes.items)
    × ((k : ℕ) → k < l.i → slice_get l.outcomes.items k ≡ Some (outcome_of_ends l.ends k))
