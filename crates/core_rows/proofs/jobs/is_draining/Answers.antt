use Rattle.core_rows.proofs.Totals.{draining_is}
use Rattle.core_rows.proofs.jobs.is_draining.Goals as goal

pub returns : goal.returns
returns c = draining_is c.args.core.now c.requires.stands.holds
