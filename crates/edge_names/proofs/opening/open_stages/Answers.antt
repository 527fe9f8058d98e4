use Rattle.std.proofs.Common.{◌+◌, ◌*◌, refl, ◌∙◌, take, arith}
use Rattle.stage_bodies.specs.Seen.{body_at}
use Rattle.stage_laws.proofs.Numbering.{numbered_topology}
use Rattle.edge_names.specs.Supplies.{at_paces, supplied}
use Rattle.edge_names.specs.Opened.{calls_of}
use Rattle.edge_names.proofs.Seeing.{seen_by}
use Rattle.edge_names.proofs.Gating.{is_shared, some_producer}
use Rattle.edge_names.proofs.Openings.{asks_nothing, asked_more, here_at, home_still, opened_all, opened_start, opened_turn, some_at}
use Rattle.edge_names.proofs.Returns.{callbacks_at, callbacks_more, callbacks_same}
use Rattle.edge_names.proofs.Cuts.{EndsBy, ends_by}
use Rattle.edge_names.proofs.opening.open_stages.Given.{Over}
use Rattle.edge_names.proofs.opening.open_stages.Goals.{In-Err}
use Rattle.edge_names.proofs.opening.open_stages.Goals as goal

pub loop-spec-init : goal.loop-spec-init
loop-spec-init g c =
    let feeds = at_paces c.args.topology.now (g.S.Supply.feeds c.args.supply.now) in
    let seen = seen_by g.E.Edges g.E.Source.ByteSource g.E.Sink.ByteSink in
    record {
      len = refl;
      home = c.requires.home;
      asks = asks_nothing (seen c.args.edges.now);
      callbacks = callbacks_same (body_at g.B.Works.look c.args.bodies.now.items);
      opened = opened_start feeds c.args.topology.now (seen c.args.edges.now) (body_at g.B.Works.look c.args.bodies.now.items) (numbered_topology c.args.topology.now c.requires.sound);
    }

pub open_stage-requires-clause-home : goal.open_stage-requires-clause-home
open_stage-requires-clause-home g c κs within = λ some.
    let topology = c.args.topology.now in
    let n = c.loop-spec.spec-index in
    let spec = c.spec-item.result in
    let here = here_at topology.stages c.as_slice-spec-items.result.now n spec c.as_slice-spec-items.ensures c.loop-spec-test.true c.spec-item.is in
    let numbered = numbered_topology topology c.requires.sound in
    some_at (body_at g.B.Works.look c.loop-spec.bodies.items) c.place_of-at.result (spec.no.0 * 16 + 0) c.place_of-at.ensures (c.loop-spec.invariant.home spec.no spec (numbered.found n spec here) some)

ended : (g : Over) (c : In-Err g)
    → EndsBy (at_paces c.args.topology.now (g.S.Supply.feeds c.args.supply.now)) c.args.topology.now c.in-Err.unopened (seen_by g.E.Edges g.E.Source.ByteSource g.E.Sink.ByteSink c.args.edges.now)
    (seen_by g.E.Edges g.E.Source.ByteSource g.E.Sink.ByteSink c.open_stage.new.edges) (body_at g.B.Works.look c.args.bodies.now.items) (body_at g.B.Works.look c.open_stage.new.bodies.items)
ended g c =
    let seen = seen_by g.E.Edges g.E.Source.ByteSource g.E.Sink.ByteSink in
    let topology = c.args.topology.now in
    let x = c.loop-spec.invariant in
    let n = c.loop-spec.spec-index in
    let spec = c.spec-item.result in
    let here = here_at topology.stages c.as_slice-spec-items.result.now n spec c.as_slice-spec-items.ensures c.loop-spec-test.true c.spec-item.is in
    ends_by (at_paces topology (g.S.Supply.feeds c.args.supply.now)) (Unit {0}) topology n c.place_of-at.result spec c.in-Err.unopened (seen c.args.edges.now) (seen c.loop-spec.edges) (seen c.open_stage.new.edges)
    (body_at g.B.Works.look c.args.bodies.now.items) (body_at g.B.Works.look c.loop-spec.bodies.items) (body_at g.B.Works.look c.open_stage.new.bodies.items) here x.asks
    (rw c.in-Err.ensures.same x.opened) c.in-Err.ensures.opens

pub returns-in-Err-clause-failed : goal.returns-in-Err-clause-failed
returns-in-Err-clause-failed g c = (ended g (goal.at.returns-in-Err-clause-failed g c).In-Err).0

pub returns-in-Err-clause-cut_off : goal.returns-in-Err-clause-cut_off
returns-in-Err-clause-cut_off g c = (ended g (goal.at.returns-in-Err-clause-cut_off g c).In-Err).1

pub loop-spec-preserved : goal.loop-spec-preserved
loop-spec-preserved g c =
    let look = g.B.Works.look in
    let topology = c.args.topology.now in
    let feeds = at_paces topology (g.S.Supply.feeds c.args.supply.now) in
    let seen = seen_by g.E.Edges g.E.Source.ByteSource g.E.Sink.ByteSink in
    let x = c.loop-spec.invariant in
    let n = c.loop-spec.spec-index in
    let at = c.place_of-at.result in
    let spec = c.spec-item.result in
    let a = seen c.args.edges.now in
    let b = seen c.loop-spec.edges in
    let here = here_at topology.stages c.as_slice-spec-items.result.now n spec c.as_slice-spec-items.ensures c.loop-spec-test.true c.spec-item.is in
    let start = body_at look c.args.bodies.now.items in
    let was = body_at look c.loop-spec.bodies.items in
    let now = body_at look c.open_stage.new.bodies.items in
    record {
      len = c.in-Ok.ensures.len ∙ x.len;
      home = home_still feeds topology at (supplied feeds spec) b was now x.home c.in-Ok.ensures.opens.bodies;
      asks = asked_more feeds topology.stages n spec a b (seen c.open_stage.new.edges) here x.asks c.in-Ok.ensures.opens.asks;
      callbacks = callbacks_more start was now x.callbacks (callbacks_at at (supplied feeds spec) b was now c.in-Ok.ensures.opens.bodies);
      opened = opened_turn feeds topology n at spec (calls_of feeds (take n topology.stages)) a b start was now (numbered_topology topology c.requires.sound) here c.place_of-at.ensures x.asks x.opened c.in-Ok.ensures.opens.bodies;
    }

pub returns-clause-opened : goal.returns-clause-opened
returns-clause-opened g c =
    let feeds = at_paces c.args.topology.now (g.S.Supply.feeds c.args.supply.now) in
    let seen = seen_by g.E.Edges g.E.Source.ByteSource g.E.Sink.ByteSink in
    let look = g.B.Works.look in
    opened_all feeds c.args.topology.now c.loop-spec.spec-index (seen c.args.edges.now) (body_at look c.args.bodies.now.items) (body_at look c.loop-spec.bodies.items)
    (rw c.as_slice-spec-items.ensures at c.loop-spec.auto.spec-index-end) (rw c.as_slice-spec-items.ensures at c.loop-spec-test.false) c.loop-spec.invariant.opened

pub open_stage-requires-clause-some : goal.open_stage-requires-clause-some
open_stage-requires-clause-some g c κs within =
    let least = some_producer c.args.topology.now c.requires.sound in
    omega (arith, least, c.count_producers-producers.ensures)

pub open_stage-requires-clause-shared : goal.open_stage-requires-clause-shared
open_stage-requires-clause-shared g c κs within = is_shared c.args.topology.now c.count_producers-producers.result c.count_producers-producers.ensures c.requires.sound
