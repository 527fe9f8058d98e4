use Rattle.pipe_types.specs.Numbers.{stage}
use Rattle.part_checks.proofs.subs.begin.Goals as goal

pub invariant_of-result : goal.invariant_of-result
invariant_of-result c = record { row = c.in-Ok.ensures.added.rows (stage 2) (stage 1) }
