use Rattle.body_laws.proofs.Laws.{cut_keeps}
use Rattle.body_laws.proofs.cut_off_jobs_keep_bodies.Goals as goal

pub returns : goal.returns
returns c = cut_keeps
