use Rattle.control_lines.proofs.Kept.{fresh_control}
use Rattle.control_lines.proofs.fresh_control_sources_are_kept.Goals as goal

pub returns : goal.returns
returns c = fresh_control
