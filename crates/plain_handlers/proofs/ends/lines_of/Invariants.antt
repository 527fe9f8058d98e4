use Rattle.std.proofs.Common.{◌≡◌, ◌≤◌, ◌++◌, length, drop}
use Rattle.pipe_types.specs.Handlers.{lines_where}
use Rattle.plain_handlers.specs.Tests.{outcome_test}
use Rattle.plain_handlers.proofs.ends.lines_of.Given as goal

abbrev pub invariant-loop-i : goal.invariant-loop-i
invariant-loop-i l = (l.i ≤ length l.outcomes) × (l.text.items ++ lines_where (outcome_test l.by_sink) (drop l.i l.messages) (drop l.i l.outcomes) ≡ lines_where (outcome_test l.by_sink) l.messages l.outcomes)
