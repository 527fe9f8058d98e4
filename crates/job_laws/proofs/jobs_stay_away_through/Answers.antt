use Rattle.job_laws.proofs.Away.{stays_through}
use Rattle.job_laws.proofs.jobs_stay_away_through.Goals as goal

pub returns : goal.returns
returns c = stays_through
