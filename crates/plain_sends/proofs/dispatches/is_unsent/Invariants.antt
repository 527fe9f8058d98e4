use Rattle.std.proofs.Common.{◌≡◌, drop}
use Rattle.pipe_model.specs.Flow.{is_empty, subs_of}
use Rattle.plain_sends.proofs.dispatches.is_unsent.Given as goal

abbrev pub invariant-loop-one : goal.invariant-loop-one
invariant-loop-one l = is_empty (subs_of (drop l.one-index l.sent) l.n) ≡ is_empty (subs_of l.sent l.n)
