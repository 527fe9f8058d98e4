use Rattle.std.proofs.Common.{◌≡◌, take}
use Rattle.message_ack.specs.Ends.{outcome_of_ends}
use Rattle.message_ack.proofs.legs.outcome_at.Given as goal

-- the outcome by the legs so far
abbrev pub invariant-loop-end : goal.invariant-loop-end
invariant-loop-end l = l.outcome ≡ outcome_of_ends (take l.end-index l.ends) l.at
