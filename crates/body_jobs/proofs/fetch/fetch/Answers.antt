use Rattle.pipe_edges.specs.LineSource.{waiting, line_end_of}
use Rattle.pipe_edges.proofs.NeedLaws.{needed_err}
use Rattle.body_jobs.proofs.Sources.{fetched_on, unread}
use Rattle.body_jobs.proofs.fetch.fetch.Goals as goal

pub returns-in-Ok-clause-done : goal.returns-in-Ok-clause-done
returns-in-Ok-clause-done g c =
    let source = g.S.ByteSource in
    let f = c.in-Ok.ensures in
    fetched_on source c.args.source.now c.fetch.new.self c.args.most c.in-Ok.fetched _ c.outcome_of.ensures
    (record { handed = f.handed; in_order = f.in_order; each_is_a_line = f.each_is_a_line; cause = f.cause; nothing_left = f.nothing_left; remembers = f.remembers; again = f.again; paced = f.paced })
    f.needed

pub returns-in-Err-clause-cut_off : goal.returns-in-Err-clause-cut_off
returns-in-Err-clause-cut_off g c =
    let source = g.S.ByteSource in
    let f = c.in-Err.ensures in
    unread source c.args.source.now c.fetch.new.self c.args.most c.in-Err.e
    (record { handed = f.handed; in_order = f.in_order; each_is_a_line = f.each_is_a_line; cause = f.cause; nothing_left = f.nothing_left; remembers = f.remembers; again = f.again; paced = f.paced })

pub returns-in-Err-clause-needed : goal.returns-in-Err-clause-needed
returns-in-Err-clause-needed g c = needed_err (waiting c.args.source.now) (waiting c.fetch.new.self) (line_end_of c.fetch.new.self) c.in-Err.ensures.needed
