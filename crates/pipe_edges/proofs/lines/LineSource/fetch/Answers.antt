use Rattle.pipe_edges.specs.LineSource.{line_source, waiting}
use Rattle.pipe_edges.proofs.HandLaws.{in_order_of}
use Rattle.pipe_edges.proofs.PaceLaws.{fetch_of}
use Rattle.pipe_edges.proofs.lines.LineSource.fetch.Goals as goal

pub returns-clause-in_order : goal.returns-clause-in_order
returns-clause-in_order g c =
    rw c.into_fetched.ensures
    (in_order_of _ _ _ _ _ c.args.max c.in_ok-stop.stop c.in_ok-stop.ensures.handed c.in_ok-stop.ensures.cause)

pub returns-clause-paced : goal.returns-clause-paced
returns-clause-paced g c =
    let source = g.B.ByteSource in
    rw c.into_fetched.ensures
    (fetch_of _ _ _ (source.paced (line_source c.args.self.now)) (source.paced c.read_on.new.source)
    (waiting c.args.self.now) c.read_on.new.held c.in_ok-stop.stop c.in_ok-stop.ensures.paced)
