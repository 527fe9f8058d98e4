use Rattle.control_lines.proofs.Kept.{job_keeps}
use Rattle.control_lines.proofs.jobs_keep_control.Goals as goal

pub returns : goal.returns
returns c = job_keeps
