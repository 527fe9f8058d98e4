use Rattle.journal_reading.proofs.Cuts.{some_line, some_unended, none_line}
use Rattle.journal_reading.proofs.lines.first_line.Goals as goal

pub returns-clause-some : goal.returns-clause-some
returns-clause-some c = some_line c.args.text.now c.cut_at.result c.cut_at.ensures.some

pub returns-clause-unended : goal.returns-clause-unended
returns-clause-unended c = some_unended c.cut_at.result c.cut_at.ensures.front

pub returns-clause-none : goal.returns-clause-none
returns-clause-none c = none_line c.args.text.now c.cut_at.result c.cut_at.ensures.none
