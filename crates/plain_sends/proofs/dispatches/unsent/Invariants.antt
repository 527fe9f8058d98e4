use Rattle.std.proofs.Common.{◌≡◌, ◌++◌, drop}
use Rattle.pipe_model.specs.Flow.{unsent}
use Rattle.plain_sends.proofs.dispatches.unsent.Given as goal

abbrev pub invariant-loop-n : goal.invariant-loop-n
invariant-loop-n l = l.left.items ++ unsent l.sent (drop l.n-index l.units) ≡ unsent l.sent l.units
