use Rattle.control_lines.proofs.Kept.{kept_partly}
use Rattle.control_lines.proofs.control_is_kept_in_part.Goals as goal

pub returns : goal.returns
returns c = kept_partly
