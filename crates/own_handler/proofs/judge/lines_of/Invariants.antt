use Rattle.std.proofs.Common.{◌≡◌, ◌++◌, drop}
use Rattle.pipe_types.specs.Handlers.{is_successful, lines_where}
use Rattle.own_handler.proofs.judge.lines_of.Given as goal

abbrev pub invariant-loop-i : goal.invariant-loop-i
invariant-loop-i l = l.text.items ++ lines_where is_successful (drop l.i l.messages) (drop l.i l.outcomes) ≡ lines_where is_successful l.messages l.outcomes
