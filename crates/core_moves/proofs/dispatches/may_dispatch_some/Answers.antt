use Rattle.std.proofs.Common.{◌∙◌, sym}
use Rattle.core_moves.proofs.Sending.{dispatch_is, dispatch_dead}
use Rattle.core_moves.proofs.dispatches.may_dispatch_some.Goals as goal

pub returns-then-not-is_live : goal.returns-then-not-is_live
returns-then-not-is_live c = dispatch_dead c.args.core.now.topology c.args.core.now.journal.steps c.args.spec.now.no (sym c.is_live.ensures ∙ c.if-not-is_live.true)

pub returns : goal.returns
returns c = c.is_dispatch_next.ensures ∙ dispatch_is c.args.core.now.topology c.args.core.now.journal.steps c.args.spec.now c.requires.stands.holds.sound c.requires.there (sym c.is_live.ensures ∙ c.if-not-is_live.false)
