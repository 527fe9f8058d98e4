use Rattle.control_lines.proofs.Resting.{leaves_at_rest}
use Rattle.control_lines.proofs.control_steps_leave_at_rest.Goals as goal

pub returns : goal.returns
returns c = leaves_at_rest
