use Rattle.line_reading.proofs.Back.{step_spelt}
use Rattle.line_reading.proofs.laws.read_lines_are_printed.Goals as goal

pub returns : goal.returns
returns c = step_spelt
