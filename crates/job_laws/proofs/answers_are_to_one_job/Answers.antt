use Rattle.job_laws.proofs.Others.{one_answered}
use Rattle.job_laws.proofs.answers_are_to_one_job.Goals as goal

pub returns : goal.returns
returns c = one_answered
