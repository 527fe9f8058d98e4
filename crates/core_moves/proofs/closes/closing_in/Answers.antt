use Rattle.std.proofs.Common.{◌∙◌, sym}
use Rattle.pipe_model.specs.Standing.{gathered_in}
use Rattle.core_moves.proofs.Firsts.{none_gathered, none_elsewhere}
use Rattle.core_moves.proofs.closes.closing_in.Goals as goal

pub returns : goal.returns
returns c =
    let core = c.args.core.now in
    let s = c.args.spec.now.no in
    none_gathered core.topology core.journal.steps s (gathered_in core.topology core.journal.steps s)
    (none_elsewhere core.topology core.journal.steps c.args.spec.now c.requires.there c.requires.stands.holds.legal (sym c.is_batcher.ensures ∙ c.if-is_batcher.false))

pub closing_of-requires-clause-batcher : goal.closing_of-requires-clause-batcher
closing_of-requires-clause-batcher c = sym c.is_batcher.ensures ∙ c.if-is_batcher.true
