use Rattle.job_laws.proofs.Away.{late_home_ready}
use Rattle.job_laws.proofs.late_answers_bring_bodies_home_ready.Goals as goal

pub returns : goal.returns
returns c = late_home_ready
