use Rattle.job_laws.proofs.Away.{home_ready}
use Rattle.job_laws.proofs.bodies_may_come_home.Goals as goal

pub returns : goal.returns
returns c = home_ready
