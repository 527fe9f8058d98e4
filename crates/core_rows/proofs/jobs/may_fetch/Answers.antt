use Rattle.std.proofs.Common.{◌∙◌}
use Rattle.core_rows.proofs.Fetched.{fetch_now}
use Rattle.core_rows.proofs.jobs.may_fetch.Goals as goal

pub returns : goal.returns
returns c = c.is_fetch_next.ensures ∙ fetch_now c.args.core.now.topology c.args.core.now.journal.steps c.args.spec.now c.requires.there
