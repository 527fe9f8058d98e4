use Rattle.job_laws.proofs.Others.{silent_unanswered}
use Rattle.job_laws.proofs.silent_steps_answer_no_job.Goals as goal

pub returns : goal.returns
returns c = silent_unanswered
