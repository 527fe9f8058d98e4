use Rattle.std.proofs.Common.{◌≡◌, drop}
use Rattle.pipe_model.specs.Moves.{closable}
use Rattle.core_moves.proofs.closes.first_closing.Given as goal

abbrev pub invariant-loop-spec : goal.invariant-loop-spec
invariant-loop-spec l = closable l.core.topology l.core.journal.steps (drop l.spec-index l.spec-items) ≡ closable l.core.topology l.core.journal.steps l.spec-items
