use Rattle.std.proofs.Common.{◌≡◌, length, drop}
use Rattle.pipe_model.specs.Work.{same_replies}
use Rattle.plain_handlers.proofs.same.same_replies.Given as goal

abbrev pub invariant-loop-i : goal.invariant-loop-i
invariant-loop-i l = (length l.a ≡ length l.b) × (same_replies (drop l.i l.a) (drop l.i l.b) ≡ same_replies l.a l.b)
