use Rattle.std.proofs.Common.{◌≡◌, take}
use Rattle.pipe_model.specs.History.{history}
use Rattle.pipe_model.specs.Posts.{out_from}
use Rattle.plain_counts.proofs.posts.out_from.Given as goal

abbrev pub invariant-loop-i : goal.invariant-loop-i
invariant-loop-i l = l.from ≡ out_from (history (take l.i l.steps)) l.at
