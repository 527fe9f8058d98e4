use Rattle.control_lines.proofs.Kept.{jobless_keeps}
use Rattle.control_lines.proofs.readings_need_no_job.Goals as goal

pub returns : goal.returns
returns c = jobless_keeps
