use Rattle.std.proofs.Common.{◌∙◌, sym}
use Rattle.core_moves.proofs.Fitting.{gather_now, gather_elsewhere}
use Rattle.core_moves.proofs.gathers.may_gather_first.Goals as goal

pub returns-then-is_batcher : goal.returns-then-is_batcher
returns-then-is_batcher c = c.is_gather_next.ensures ∙ gather_now c.args.core.now.topology c.args.core.now.journal.steps c.args.spec.now c.requires.there

pub returns : goal.returns
returns c = gather_elsewhere c.args.core.now.topology c.args.core.now.journal.steps c.args.spec.now c.requires.there (sym c.is_batcher.ensures ∙ c.if-is_batcher.false)
