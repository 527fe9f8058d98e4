use Rattle.control_lines.proofs.Kept.{other_keeps}
use Rattle.control_lines.proofs.other_steps_keep_control.Goals as goal

pub returns : goal.returns
returns c = other_keeps
