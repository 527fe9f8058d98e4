use Rattle.std.proofs.Common.{◌∙◌}
use Rattle.core_moves.proofs.Starting.{start_now}
use Rattle.core_moves.proofs.children.may_start.Goals as goal

pub returns : goal.returns
returns c =
    let x = c.requires.stands in
    c.is_start_next.ensures ∙ start_now c.args.core.now.topology c.args.core.now.journal.steps c.args.spec.now c.args.slot c.requires.there x.holds.legal x.unowed c.requires.going
