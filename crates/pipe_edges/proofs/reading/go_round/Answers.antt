use Rattle.std.proofs.Common.{◌≡◌, length, rules}
use Rattle.pipe_edges.proofs.SearchLaws.{none_cut}
use Rattle.pipe_edges.proofs.PaceLaws.{cut_round}
use Rattle.pipe_edges.proofs.reading.go_round.Goals as goal

pub returns-clause-cause : goal.returns-clause-cause
returns-clause-cause g c =
    let none : length c.in_ok-records.records ≡ 0 = search rules in
    let same : c.take_lines.new.self ≡ c.args.held.now =
    none_cut c.in_ok-records.records c.args.held.now c.take_lines.new.self none c.in_ok-records.ensures.lines.0
    in
    rw same at (c.read_round.ensures.cause c.args.max)

pub returns-then-not-is_empty-clause-paced : goal.returns-then-not-is_empty-clause-paced
returns-then-not-is_empty-clause-paced g c =
    let source = g.B.ByteSource in
    let cut = c.in_ok-records.ensures.lines in
    cut_round _ _ (source.paced c.args.source.now) c.args.held.now c.take_lines.new.self c.in_ok-records.records (search rules) cut.0 cut.1
