use Rattle.std.proofs.Common.{◌≡◌, take}
use Rattle.pipe_model.specs.History.{history}
use Rattle.pipe_model.specs.Posts.{crashes}
use Rattle.plain_counts.proofs.children.crashes.Given as goal

abbrev pub invariant-loop-i : goal.invariant-loop-i
invariant-loop-i l = l.count ≡ crashes (history (take l.i l.steps)) l.n
