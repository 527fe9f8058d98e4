use Rattle.stage_bodies.specs.Seen.{body_at}
use Rattle.edge_names.specs.Supplies.{at_paces}
use Rattle.edge_names.proofs.Seeing.{seen_by}
use Rattle.box_stock.proofs.Staying.{still}
use Rattle.pipe_run.proofs.Calls.{unasked}
use Rattle.pipe_run.proofs.Stocks.{IsTakenBack, boxes_unlent}
use Rattle.pipe_run.proofs.Wholes.{left_by, remain_by, same_by}
use Rattle.pipe_run.proofs.run.run_topology.Given.{Over}
use Rattle.pipe_run.proofs.run.run_topology.Goals.{After-take_back-stock}
use Rattle.pipe_run.proofs.run.run_topology.Goals as goal

-- the boxes that were taken back from the bodies of the run
taken : (g : Over) (c : After-take_back-stock g)
    → IsTakenBack g.C.Boxed.seen c.args.topology c.args.stock.items c.take_back-stock.result.items c.in-Ok.lent.slips.items (body_at g.B.Works.look c.in-Ok.bodies.items) (body_at g.B.Works.look c.run_bodies-left.result.bodies.items)
taken g c = record {
  sound = c.requires.sound;
  as_many_slips = c.in-Ok.ensures.slips;
  as_many = c.take_back-stock.ensures.len;
  handed = c.in-Ok.ensures.boxes;
  taken = c.take_back-stock.ensures.boxes;
}

pub take_back-stock-requires-clause-there : goal.take_back-stock-requires-clause-there
take_back-stock-requires-clause-there g c =
    let table = body_at g.B.Works.look c.in-Ok.bodies.items in
    let final = body_at g.B.Works.look c.run_bodies-left.result.bodies.items in
    still g.row.C.Denot c.in-Ok.lent.slips.items c.args.topology table final c.in-Ok.ensures.bodies c.in-Ok.ensures.there
    (remain_by c.run_bodies-left.result.run c.args.topology table final c.run_bodies-left.ensures.boxes c.run_bodies-left.ensures.same_callbacks)

pub returns-in-Ok-clause-boxes : goal.returns-in-Ok-clause-boxes
returns-in-Ok-clause-boxes g c =
    left_by g.C.Boxed.seen c.run_bodies-left.result.run c.args.topology c.args.stock.items c.take_back-stock.result.items c.in-Ok.lent.slips.items _ _ (taken g (goal.at.returns-in-Ok-clause-boxes g c).After-take_back-stock) c.run_bodies-left.ensures.boxes

pub returns-in-Ok-clause-same_boxes : goal.returns-in-Ok-clause-same_boxes
returns-in-Ok-clause-same_boxes g c =
    same_by g.C.Boxed.seen c.run_bodies-left.result.run c.args.topology c.args.stock.items c.take_back-stock.result.items c.in-Ok.lent.slips.items _ _ (taken g (goal.at.returns-in-Ok-clause-same_boxes g c).After-take_back-stock) c.run_bodies-left.ensures.same_callbacks

pub returns-in-Err-clause-same_boxes : goal.returns-in-Err-clause-same_boxes
returns-in-Err-clause-same_boxes g c = boxes_unlent g.C.Boxed.seen c.args.stock.items c.in-Err.stock.items c.in-Err.ensures.back.0 c.in-Err.ensures.back.1

pub returns-in-Err-clause-wanting : goal.returns-in-Err-clause-wanting
returns-in-Err-clause-wanting g c =
    unasked c.args.live.now (at_paces c.args.topology (g.Q.Supply.feeds c.args.supply.now)) c.args.topology (seen_by g.E.Edges g.E.Source.ByteSource g.E.Sink.ByteSink c.args.edges.now)
