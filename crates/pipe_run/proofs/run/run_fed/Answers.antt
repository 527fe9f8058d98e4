use Rattle.std.specs.Prelude.{is_ok, option_map}
use Rattle.stage_bodies.specs.Seen.{body_at, line_seen, sink_seen}
use Rattle.run_pipe.specs.Clocks.{clock_seen}
use Rattle.run_pipe.specs.Watches.{watch_seen}
use Rattle.edge_names.specs.Supplies.{at_paces}
use Rattle.edge_names.proofs.Seeing.{seen_by}
use Rattle.pipe_run.proofs.LiveSinks.{same_end, went_live}
use Rattle.pipe_run.proofs.run.run_fed.Goals as goal

pub returns-in-Ok-clause-went : goal.returns-in-Ok-clause-went
returns-in-Ok-clause-went g c =
    let k = g.E.Sink.ByteSink in
    let see = sink_seen k.told k.held k.faults in
    let seen = seen_by g.E.Edges g.E.Source.ByteSource g.E.Sink.ByteSink in
    let d = g.L.Watch.Watch in
    let watching = watch_seen d.begun d.failed d.faults in
    let time = clock_seen g.K.Clock.latest g.K.Clock.readings g.K.Clock.pauses in
    let topology = c.args.core.topology in
    let went = c.run_opened-run.result in
    let steps = went.run.core.journal.steps in
    let h = c.run_opened-run.ensures.seen in
    rw (c.closed.ensures.core, c.closed.ensures.unfed) (went_live c.args.name.now (g.L.Live.text topology steps) (at_paces topology (g.Q.Supply.feeds c.args.supply.now)) (is_ok went.run.end) (is_ok c.closed.result.end) topology steps (body_at g.B.Works.look c.args.bodies.items) (body_at g.B.Works.look went.bodies.items) (option_map (line_seen g.E.Source.ByteSource) c.args.control)
    (seen c.args.edges.now) (seen c.open_live.new.edges) (seen c.run_opened-run.new.edges) (seen c.back_sink-back.new.edges) (time c.args.clock) (time went.clock) (watching c.in-Ok.watch) (watching went.watch) went.run.unfed (see c.into_sink.result) c.back_sink-back.result c.in-Ok.ensures.opened c.run_opened-run.ensures.went c.run_opened-run.ensures.kept
    c.run_opened-run.ensures.known c.into_sink.ensures.faults (λ all w. c.into_sink.ensures.fed topology steps all h.fit h.part (λ t. let p = w t in (p.0, h.all p.0 p.1))) c.back_sink-back.ensures (same_end c.back_sink-back.result c.closed.result.end went.run.end c.closed.ensures.end) c.closed.ensures.wanting)
