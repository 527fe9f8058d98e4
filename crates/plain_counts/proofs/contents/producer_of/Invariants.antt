use Rattle.std.proofs.Common.{◌≡◌, take}
use Rattle.pipe_model.specs.History.{history}
use Rattle.pipe_model.specs.Content.{producer_of}
use Rattle.plain_counts.proofs.contents.producer_of.Given as goal

abbrev pub invariant-loop-i : goal.invariant-loop-i
invariant-loop-i l = l.producer ≡ producer_of (history (take l.i l.steps)) l.n
