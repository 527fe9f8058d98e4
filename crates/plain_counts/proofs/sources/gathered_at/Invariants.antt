use Rattle.std.proofs.Common.{◌≡◌, take}
use Rattle.pipe_model.specs.History.{history}
use Rattle.pipe_model.specs.Legal.{gathered_at}
use Rattle.plain_counts.proofs.sources.gathered_at.Given as goal

abbrev pub invariant-loop-i : goal.invariant-loop-i
invariant-loop-i l = l.at ≡ gathered_at (history (take l.i l.steps)) l.n
