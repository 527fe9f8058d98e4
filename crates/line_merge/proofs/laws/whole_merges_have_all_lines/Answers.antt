use Rattle.line_merge.proofs.Firsts.{all_lines}
use Rattle.line_merge.proofs.laws.whole_merges_have_all_lines.Goals as goal

pub returns : goal.returns
returns c = all_lines
