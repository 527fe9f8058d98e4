use Rattle.std.proofs.Common.{◌∙◌, sym}
use Rattle.core_rows.proofs.Totals.{draining_is}
use Rattle.plain_run.proofs.Placing.{drained_by}
use Rattle.plain_run.proofs.standing.is_drained.Goals as goal

pub returns : goal.returns
returns c =
    let core = c.args.core.now in
    c.are_final.ensures
    ∙ drained_by core c.requires.holds (sym (draining_is core c.requires.holds) ∙ c.if-not-core.false) (sym c.is_any_out.ensures ∙ c.if-is_any_out.false)
