use Rattle.stage_buffer.specs.Order.{IsLatest, back_at}
use Rattle.stage_buffer.proofs.newest.Given as goal

abbrev pub invariant-loop-part : goal.invariant-loop-part
invariant-loop-part g l = IsLatest (back_at l.rings) l.part l.found
