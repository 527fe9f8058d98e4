use Rattle.std.proofs.Common.{◌≡◌, ◌++◌, drop}
use Rattle.pipe_types.specs.Handlers.{passed_lines}
use Rattle.plain_handlers.proofs.ends.passed_text.Given as goal

abbrev pub invariant-loop-reply : goal.invariant-loop-reply
invariant-loop-reply l = l.text.items ++ passed_lines (drop l.reply-index l.replies) ≡ passed_lines l.replies
