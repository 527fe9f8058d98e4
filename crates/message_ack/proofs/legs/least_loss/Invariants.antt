use Rattle.std.proofs.Common.{◌≡◌, drop}
use Rattle.message_ack.specs.Ends.{loss_of_ends}
use Rattle.message_ack.proofs.legs.least_loss.Given as goal

-- no leg so far was lost
abbrev pub invariant-loop-end : goal.invariant-loop-end
invariant-loop-end l = loss_of_ends l.ends ≡ loss_of_ends (drop l.end-index l.ends)
