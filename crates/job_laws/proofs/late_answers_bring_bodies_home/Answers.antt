use Rattle.job_laws.proofs.Away.{late_home}
use Rattle.job_laws.proofs.late_answers_bring_bodies_home.Goals as goal

pub returns : goal.returns
returns c = late_home
