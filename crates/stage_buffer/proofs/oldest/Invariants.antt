use Rattle.stage_buffer.specs.Order.{IsEarliest, front_at}
use Rattle.stage_buffer.proofs.oldest.Given as goal

abbrev pub invariant-loop-part : goal.invariant-loop-part
invariant-loop-part g l = IsEarliest (front_at l.rings) l.part l.found
