use Rattle.std.proofs.Common.{◌∙◌}
use Rattle.core_moves.proofs.Chain.{job_is}
use Rattle.core_moves.proofs.finds.has_job.Goals as goal

pub returns : goal.returns
returns c = c.is_job_next.ensures ∙ job_is c.args.core.now.topology c.args.core.now.journal.steps c.args.spec.now c.requires.stands.unowed c.requires.going
