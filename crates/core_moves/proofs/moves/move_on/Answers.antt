use Rattle.std.proofs.Common.{◌∙◌, ap, sym}
use Rattle.pipe_model.specs.Moves.{or_else, if_so, move_or_pause, Drained}
use Rattle.core_moves.specs.Moves.{from_restarts}
use Rattle.core_moves.proofs.moves.move_on.Goals as goal

pub returns-then-is_drained : goal.returns-then-is_drained
returns-then-is_drained c =
    let core = c.args.core.now in
    ap (λ b. move_or_pause (or_else (if_so b Drained) (from_restarts core.topology core.journal.steps))) (sym (sym c.is_drained.ensures ∙ c.if-is_drained.true))

pub returns-else-is_drained : goal.returns-else-is_drained
returns-else-is_drained c =
    let core = c.args.core.now in
    c.restart_first.ensures ∙ ap (λ b. move_or_pause (or_else (if_so b Drained) (from_restarts core.topology core.journal.steps))) (sym (sym c.is_drained.ensures ∙ c.if-is_drained.false))
