use Rattle.std.proofs.Common.{◌≡◌, length, drop}
use Rattle.pipe_model.specs.Work.{same_outcomes}
use Rattle.plain_handlers.proofs.same.same_outcomes.Given as goal

abbrev pub invariant-loop-i : goal.invariant-loop-i
invariant-loop-i l = (length l.a ≡ length l.b) × (same_outcomes (drop l.i l.a) (drop l.i l.b) ≡ same_outcomes l.a l.b)
