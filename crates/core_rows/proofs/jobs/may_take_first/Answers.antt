use Rattle.std.proofs.Common.{◌∙◌}
use Rattle.core_rows.proofs.Fetched.{take_now}
use Rattle.core_rows.proofs.jobs.may_take_first.Goals as goal

pub returns : goal.returns
returns c = c.is_take_next.ensures ∙ take_now c.args.core.now.topology c.args.core.now.journal.steps c.args.spec.now c.requires.there c.requires.stands.unowed c.requires.going
