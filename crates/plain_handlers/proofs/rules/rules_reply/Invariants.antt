use Rattle.std.proofs.Common.{◌≡◌, drop}
use Rattle.pipe_types.specs.Handlers.{rules_reply}
use Rattle.plain_handlers.proofs.rules.rules_reply.Given as goal

abbrev pub invariant-loop-rule : goal.invariant-loop-rule
invariant-loop-rule l = rules_reply l.count (drop l.rule-index l.rules) l.message ≡ rules_reply l.count l.rules l.initial.message
