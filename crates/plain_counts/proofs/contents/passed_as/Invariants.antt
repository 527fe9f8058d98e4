use Rattle.std.proofs.Common.{◌≡◌, take}
use Rattle.pipe_model.specs.Content.{passed_as}
use Rattle.std.specs.Prelude.{drop}
use Rattle.plain_counts.proofs.contents.passed_as.Given as goal

abbrev pub invariant-loop-reply : goal.invariant-loop-reply
invariant-loop-reply l = passed_as (drop l.reply-index l.replies) l.n ≡ passed_as l.replies l.n
