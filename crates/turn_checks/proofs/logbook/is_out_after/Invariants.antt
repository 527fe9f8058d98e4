use Rattle.std.proofs.Common.{◌≡◌, take, reverse}
use Rattle.pipe_model.specs.Posts.{is_out}
use Rattle.turn_checks.proofs.logbook.is_out_after.Given as goal

-- what the steps so far come to
abbrev pub invariant-loop-at : goal.invariant-loop-at
invariant-loop-at l = l.out ≡ is_out (reverse (take l.at (reverse l.journal.steps))) l.post
