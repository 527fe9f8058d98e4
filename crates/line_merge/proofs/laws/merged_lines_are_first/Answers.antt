use Rattle.line_merge.proofs.Firsts.{first_lines}
use Rattle.line_merge.proofs.laws.merged_lines_are_first.Goals as goal

pub returns : goal.returns
returns c = first_lines
