use Rattle.std.proofs.Common.{◌≡◌, drop}
use Rattle.pipe_model.specs.Flow.{reply_to}
use Rattle.plain_places.proofs.moves.reply_to.Given as goal

abbrev pub invariant-loop-i : goal.invariant-loop-i
invariant-loop-i l = reply_to (drop l.i l.chunk) (drop l.i l.replies) l.n ≡ reply_to l.chunk l.replies l.n
