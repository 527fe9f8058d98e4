use Rattle.control_lines.proofs.Obeying.{control_read}
use Rattle.control_lines.proofs.control_sources_are_read.Goals as goal

pub returns : goal.returns
returns c = control_read
