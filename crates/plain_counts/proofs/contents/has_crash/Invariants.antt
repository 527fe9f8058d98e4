use Rattle.std.proofs.Common.{◌≡◌, take}
use Rattle.pipe_model.specs.Content.{has_crash}
use Rattle.plain_counts.proofs.contents.has_crash.Given as goal

abbrev pub invariant-loop-reply : goal.invariant-loop-reply
invariant-loop-reply l = l.found ≡ has_crash (take l.reply-index l.replies)
