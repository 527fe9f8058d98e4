use Rattle.job_laws.proofs.Away.{live_home}
use Rattle.job_laws.proofs.live_answers_bring_bodies_home.Goals as goal

pub returns : goal.returns
returns c = live_home
