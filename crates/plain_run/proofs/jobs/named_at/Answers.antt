use Rattle.std.proofs.Common.{sym, ◌∙◌}
use Rattle.plain_run.proofs.Naming.{unit_low}
use Rattle.plain_run.proofs.jobs.named_at.Goals as goal

pub with_producer-requires-clause-least : goal.with_producer-requires-clause-least
with_producer-requires-clause-least c =
    unit_low c.args.core.now c.args.works.now c.args.post c.args.at c.in-Some.no c.requires.holds c.requires.works (sym c.unit_at.ensures ∙ c.in-Some.is)
