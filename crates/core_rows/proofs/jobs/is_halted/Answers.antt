use Rattle.core_rows.proofs.Totals.{halted_is}
use Rattle.core_rows.proofs.jobs.is_halted.Goals as goal

pub returns : goal.returns
returns c = halted_is c.args.core.now c.requires.stands.holds
