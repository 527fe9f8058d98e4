use Rattle.std.proofs.Common.{take}
use Rattle.message_ack.proofs.AckLaws.{Acknowledges}
use Rattle.message_ack.proofs.verdicts.group.Given as goal

-- the acknowledgements of the producers so far
abbrev pub invariant-loop-producer : goal.invariant-loop-producer
invariant-loop-producer l = Acknowledges l.verdicts l.items.items (take l.producer-index l.producer-items)
