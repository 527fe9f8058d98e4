use Rattle.job_laws.proofs.Away.{unrecorded_home}
use Rattle.job_laws.proofs.unrecorded_answers_bring_bodies_home.Goals as goal

pub returns : goal.returns
returns c = unrecorded_home
