use Rattle.job_laws.proofs.Away.{leaves}
use Rattle.job_laws.proofs.jobs_leave_with_their_bodies.Goals as goal

pub returns : goal.returns
returns c = leaves
