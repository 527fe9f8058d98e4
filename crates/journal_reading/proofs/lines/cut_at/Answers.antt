use Rattle.std.proofs.Common.{◌+◌}
use Rattle.std.proofs.lemmas.List.{take_rest}
use Rattle.journal_reading.proofs.Cuts.{first_cut, parts_cut, front_cut, no_cut}
use Rattle.journal_reading.proofs.lines.cut_at.Goals as goal

pub returns-in-Some-clause-some : goal.returns-in-Some-clause-some
returns-in-Some-clause-some c = rw (take_rest c.args.text.now (c.in-Some.found + 1)) (first_cut c.args.at c.args.text.now c.in-Some.found c.in-Some.ensures.0 c.in-Some.ensures.1)

pub returns-in-Some-clause-parts : goal.returns-in-Some-clause-parts
returns-in-Some-clause-parts c = rw (take_rest c.args.text.now (c.in-Some.found + 1)) (parts_cut c.args.at c.args.text.now c.in-Some.found c.in-Some.ensures.0 c.in-Some.ensures.1)

pub returns-in-Some-clause-front : goal.returns-in-Some-clause-front
returns-in-Some-clause-front c = front_cut c.args.at c.args.text.now c.in-Some.found c.in-Some.ensures.0

pub returns-in-None-clause-none : goal.returns-in-None-clause-none
returns-in-None-clause-none c = no_cut c.args.at c.args.text.now c.in-None.ensures
