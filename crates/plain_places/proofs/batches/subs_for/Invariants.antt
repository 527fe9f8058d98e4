use Rattle.std.proofs.Common.{◌≡◌, ◌++◌, drop}
use Rattle.pipe_model.specs.Flow.{subs_of}
use Rattle.plain_places.proofs.batches.subs_for.Given as goal

abbrev pub invariant-loop-one : goal.invariant-loop-one
invariant-loop-one l = l.subs.items ++ subs_of (drop l.one-index l.sent) l.n ≡ subs_of l.sent l.n
