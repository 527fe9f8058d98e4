use Rattle.job_laws.proofs.Away.{away_stays}
use Rattle.job_laws.proofs.jobs_stay_away.Goals as goal

pub returns : goal.returns
returns c = away_stays
