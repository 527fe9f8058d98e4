use Rattle.std.specs.Prelude.{option_map}
use Rattle.stage_bodies.specs.Seen.{body_at, line_seen, sink_seen}
use Rattle.edge_names.specs.Supplies.{at_paces}
use Rattle.edge_names.proofs.Seeing.{seen_by}
use Rattle.pipe_run.proofs.LiveSinks.{undone_in_part, undone_opened, undone_unopened}
use Rattle.pipe_run.proofs.run.undo.Goals as goal

pub returns-in-Err-clause-undone : goal.returns-in-Err-clause-undone
returns-in-Err-clause-undone g c begun unopened =
    let seen = seen_by g.E.Edges g.E.Source.ByteSource g.E.Sink.ByteSink in
    let topology = c.args.topology.now in
    let why = rw c.in-Failed.is at unopened in
    undone_in_part c.args.name.now (at_paces topology (g.Q.Supply.feeds c.args.supply.now)) topology (option_map (line_seen g.E.Source.ByteSource) c.args.control) (body_at g.B.Works.look c.args.bodies.now.items) begun (seen c.args.edges.now) (seen c.give_back-back.new.edges) why.1 c.in-Err.ensures.in_part

pub returns-in-Unopened-clause-undone : goal.returns-in-Unopened-clause-undone
returns-in-Unopened-clause-undone g c begun unopened =
    let seen = seen_by g.E.Edges g.E.Source.ByteSource g.E.Sink.ByteSink in
    let topology = c.args.topology.now in
    let why = rw c.in-Unopened.is at unopened in
    undone_unopened c.give_back-back.result c.args.name.now (at_paces topology (g.Q.Supply.feeds c.args.supply.now)) topology (option_map (line_seen g.E.Source.ByteSource) c.args.control) (body_at g.B.Works.look c.args.bodies.now.items) begun (seen c.args.edges.now) (seen c.give_back-back.new.edges) why
    c.give_back-back.ensures.back c.give_back-back.ensures.in_part

pub returns-in-Opened-clause-undone : goal.returns-in-Opened-clause-undone
returns-in-Opened-clause-undone g c begun unopened =
    let k = g.E.Sink.ByteSink in
    let see = sink_seen k.told k.held k.faults in
    let seen = seen_by g.E.Edges g.E.Source.ByteSource g.E.Sink.ByteSink in
    let topology = c.args.topology.now in
    let why = rw c.in-Opened.is at unopened in
    undone_opened c.give_back-back.result c.back_sink.result c.args.name.now (at_paces topology (g.Q.Supply.feeds c.args.supply.now)) topology (option_map (line_seen g.E.Source.ByteSource) c.args.control) (body_at g.B.Works.look c.args.bodies.now.items) (see c.in-Opened.sink) begun (seen c.args.edges.now) (seen c.give_back-back.new.edges) (seen c.back_sink.new.edges) why.0 why.1
    c.give_back-back.ensures.back c.give_back-back.ensures.in_part c.back_sink.ensures
