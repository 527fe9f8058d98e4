use Rattle.std.proofs.Common.{◌∙◌}
use Rattle.core_allows.proofs.Replied.{done_model}
use Rattle.core_allows.proofs.dones.may_be_done.Goals as goal

pub returns-clause-model : goal.returns-clause-model
returns-clause-model c =
    λ e.
    let x = c.requires.stands in
    c.is_done_by_rows.ensures ∙ done_model c.args.core.now.topology c.args.core.now.journal.steps c.args.stage c.args.replies.now x.holds.sound x.holds.legal x.unowed e
