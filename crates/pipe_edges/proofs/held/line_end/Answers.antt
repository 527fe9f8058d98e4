use Rattle.std.proofs.lemmas.List.{take_rest}
use Rattle.pipe_edges.proofs.SearchLaws.{no_lf, ends_at}
use Rattle.pipe_edges.proofs.held.line_end.Goals as goal

pub returns-in-Some-clause-found : goal.returns-in-Some-clause-found
returns-in-Some-clause-found c =
    let first = rw (take_rest c.args.bytes.now c.args.searched) at c.in-Some.ensures in
    ends_at c.args.bytes.now c.args.searched c.in-Some.at c.requires first.0 first.1

pub returns-in-None-clause-none : goal.returns-in-None-clause-none
returns-in-None-clause-none c =
    no_lf c.args.bytes.now c.args.searched c.requires (rw (take_rest c.args.bytes.now c.args.searched) at c.in-None.ensures)
