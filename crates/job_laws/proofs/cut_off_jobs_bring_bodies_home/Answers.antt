use Rattle.job_laws.proofs.Away.{cut_home}
use Rattle.job_laws.proofs.cut_off_jobs_bring_bodies_home.Goals as goal

pub returns : goal.returns
returns c = cut_home
