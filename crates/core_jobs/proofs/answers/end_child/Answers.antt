use Rattle.std.proofs.Common.{◌∙◌}
use Rattle.core_jobs.proofs.answers.end_child.Goals as goal

pub returns-clause-ok : goal.returns-clause-ok
returns-clause-ok c = c.let_go.ensures ∙ c.child_end.ensures.ok
