use Rattle.std.proofs.Common.{◌∙◌, sym}
use Rattle.core_moves.proofs.Sending.{dispatch_empty}
use Rattle.core_moves.proofs.dispatches.may_dispatch.Goals as goal

pub returns-then-is_waiting_empty : goal.returns-then-is_waiting_empty
returns-then-is_waiting_empty c =
    dispatch_empty c.args.core.now.topology c.args.core.now.journal.steps c.args.spec.now c.requires.stands.holds.sound c.requires.there (sym c.is_waiting_empty.ensures ∙ c.if-is_waiting_empty.true)
