use Rattle.std.proofs.Common.{◌≡◌, take}
use Rattle.pipe_model.specs.History.{history}
use Rattle.plain_counts.specs.Fetches.{sum_out}
use Rattle.plain_counts.proofs.sources.fetches_out.Given as goal

abbrev pub invariant-loop-spec : goal.invariant-loop-spec
invariant-loop-spec l = l.sum ≡ sum_out (history l.steps) (take l.spec-index l.specs)
