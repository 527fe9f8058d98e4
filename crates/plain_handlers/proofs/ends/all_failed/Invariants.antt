use Rattle.std.proofs.Common.{◌≡◌, ◌++◌, drop, map}
use Rattle.pipe_types.specs.declared.message.Outcome.TheVariants.{Failed}
use Rattle.plain_handlers.proofs.ends.all_failed.Given as goal

abbrev pub invariant-loop-message : goal.invariant-loop-message
invariant-loop-message l = l.all.items ++ map (λ m. Failed l.why) (drop l.message-index l.messages) ≡ map (λ m. Failed l.why) l.messages
