use Rattle.std.proofs.Common.{◌≡◌, take}
use Rattle.pipe_model.specs.History.{history}
use Rattle.pipe_model.specs.Content.{arrivals}
use Rattle.plain_counts.proofs.contents.arrivals.Given as goal

abbrev pub invariant-loop-i : goal.invariant-loop-i
invariant-loop-i l = l.units.items ≡ arrivals (history (take l.i l.steps)) l.stage
