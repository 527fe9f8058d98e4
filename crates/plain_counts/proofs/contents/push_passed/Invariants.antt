use Rattle.std.proofs.Common.{◌≡◌, ◌++◌, take}
use Rattle.pipe_model.specs.Content.{passed}
use Rattle.plain_counts.proofs.contents.push_passed.Given as goal

abbrev pub invariant-loop-reply : goal.invariant-loop-reply
invariant-loop-reply l = l.units.items ≡ l.fn.old.items ++ passed (take l.reply-index l.replies)
