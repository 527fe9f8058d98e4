use Rattle.std.proofs.Common.{◌≡◌, None, replicate}
use Rattle.message_ack.proofs.legs.BatchLegs.new.Given as goal

-- as many legs so far, none ended
abbrev pub invariant-loop-leg : goal.invariant-loop-leg
invariant-loop-leg l = l.ends.items ≡ replicate l._leg None
