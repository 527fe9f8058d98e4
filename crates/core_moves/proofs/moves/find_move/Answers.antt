use Rattle.std.proofs.Common.{◌∙◌, sym}
use Rattle.core_moves.proofs.Chain.{on_is, halted_out, halted_in}
use Rattle.core_moves.proofs.moves.find_move.Goals as goal

pub move_on-requires : goal.move_on-requires
move_on-requires c = record { stands = c.requires.stands; going = sym c.is_halted.ensures ∙ c.if-not-is_halted.true }

pub returns-then-not-is_halted : goal.returns-then-not-is_halted
returns-then-not-is_halted c =
    let core = c.args.core.now in
    c.move_on.ensures ∙ on_is core.topology core.journal.steps (sym c.is_halted.ensures ∙ c.if-not-is_halted.true)

pub returns-then-is_any_out : goal.returns-then-is_any_out
returns-then-is_any_out c =
    let core = c.args.core.now in
    halted_out core.topology core.journal.steps (sym c.is_halted.ensures ∙ c.if-not-is_halted.false) (sym c.is_any_out.ensures ∙ c.if-is_any_out.true)

pub returns-else-is_any_out : goal.returns-else-is_any_out
returns-else-is_any_out c =
    let core = c.args.core.now in
    halted_in core.topology core.journal.steps (sym c.is_halted.ensures ∙ c.if-not-is_halted.false) (sym c.is_any_out.ensures ∙ c.if-is_any_out.false)
