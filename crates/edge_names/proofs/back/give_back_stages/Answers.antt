use Rattle.std.proofs.Common.{refl, ◌∙◌}
use Rattle.stage_bodies.specs.Seen.{body_at}
use Rattle.stage_laws.proofs.Numbering.{numbered_topology}
use Rattle.edge_names.specs.Supplies.{at_paces}
use Rattle.edge_names.proofs.Seeing.{seen_by}
use Rattle.edge_names.proofs.Openings.{here_at}
use Rattle.edge_names.proofs.Returns.{off_nothing, back_part, back_turn, callbacks_more, callbacks_same, calm_start, calm_turn, rest_turn}
use Rattle.edge_names.proofs.back.give_back_stages.Goals as goal

pub loop-spec-init : goal.loop-spec-init
loop-spec-init g c =
    let feeds = at_paces c.args.topology.now (g.S.Supply.feeds c.args.supply.now) in
    let seen = seen_by g.E.Edges g.E.Source.ByteSource g.E.Sink.ByteSink in
    let was = body_at g.B.Works.look c.args.bodies.now.items in
    record {
      len = refl;
      rest = λ s le. refl;
      back = off_nothing (seen c.args.edges.now);
      calm = calm_start feeds was;
      callbacks = callbacks_same was;
    }

pub loop-spec-preserved : goal.loop-spec-preserved
loop-spec-preserved g c =
    let feeds = at_paces c.args.topology.now (g.S.Supply.feeds c.args.supply.now) in
    let seen = seen_by g.E.Edges g.E.Source.ByteSource g.E.Sink.ByteSink in
    let look = g.B.Works.look in
    let x = c.loop-spec.invariant in
    let topology = c.args.topology.now in
    let n = c.loop-spec.spec-index in
    let at = c.place_of-at.result in
    let spec = c.spec-item.result in
    let here = here_at topology.stages c.as_slice-spec-items.result.now n spec c.as_slice-spec-items.ensures c.loop-spec-test.true c.spec-item.is in
    let numbered = numbered_topology topology c.requires.sound in
    let was = body_at look c.args.bodies.now.items in
    let now = body_at look c.loop-spec.bodies.items in
    let next = body_at look c.back_stage.new.bodies.items in
    record {
      len = c.in-Ok.ensures.len ∙ x.len;
      rest = rest_turn topology n at spec was now next numbered here c.place_of-at.ensures x.rest c.in-Ok.ensures.others;
      back = back_turn feeds topology n at spec was now (seen c.args.edges.now) (seen c.loop-spec.edges) (seen c.back_stage.new.edges) numbered here c.place_of-at.ensures x.rest x.back (c.in-Ok.ensures.back feeds.pace);
      calm = calm_turn feeds topology n at spec was now numbered here c.place_of-at.ensures x.rest x.calm (c.in-Ok.ensures.calm feeds.pace);
      callbacks = callbacks_more was now next x.callbacks c.in-Ok.ensures.callbacks;
    }

pub returns-in-Err-clause-in_part : goal.returns-in-Err-clause-in_part
returns-in-Err-clause-in_part g c =
    let topology = c.args.topology.now in
    let feeds = at_paces topology (g.S.Supply.feeds c.args.supply.now) in
    let seen = seen_by g.E.Edges g.E.Source.ByteSource g.E.Sink.ByteSink in
    let x = c.loop-spec.invariant in
    let spec = c.spec-item.result in
    back_part feeds topology c.loop-spec.spec-index c.place_of-at.result spec (body_at g.B.Works.look c.args.bodies.now.items) (body_at g.B.Works.look c.loop-spec.bodies.items)
    (seen c.args.edges.now) (seen c.loop-spec.edges) (seen c.back_stage.new.edges) (numbered_topology topology c.requires.sound)
    (here_at topology.stages c.as_slice-spec-items.result.now c.loop-spec.spec-index spec c.as_slice-spec-items.ensures c.loop-spec-test.true c.spec-item.is)
    (rw c.as_slice-spec-items.ensures at c.loop-spec-test.true) c.place_of-at.ensures x.rest x.back (c.in-Err.ensures.in_part feeds.pace)
