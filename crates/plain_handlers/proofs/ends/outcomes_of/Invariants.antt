use Rattle.std.proofs.Common.{◌≡◌, ◌++◌, drop, map}
use Rattle.pipe_types.specs.Handlers.{outcome_of}
use Rattle.plain_handlers.proofs.ends.outcomes_of.Given as goal

abbrev pub invariant-loop-reply : goal.invariant-loop-reply
invariant-loop-reply l = l.outcomes.items ++ map outcome_of (drop l.reply-index l.replies) ≡ map outcome_of l.replies
