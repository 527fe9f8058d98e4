use Rattle.std.proofs.Common.{◌≡◌, drop}
use Rattle.pipe_model.specs.Flow.{subs_of, waiting_after}
use Rattle.plain_places.proofs.moves.waiting_after.Given as goal

abbrev pub invariant-loop-one : goal.invariant-loop-one
invariant-loop-one l = waiting_after (subs_of (drop l.one-index l.sent) l.n) l.is_over l.stage ≡ waiting_after (subs_of l.sent l.n) l.is_over l.stage
