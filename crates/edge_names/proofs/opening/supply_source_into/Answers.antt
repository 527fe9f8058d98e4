use Rattle.std.proofs.Common.{[], ap, subst}
use Rattle.std.specs.Prelude.{Some, None, OnOk, option_map}
use Rattle.stage_bodies.specs.Seen.{OneSource, body_at, source_seen}
use Rattle.rate_gate.specs.Gate.{pace_of}
use Rattle.edge_names.specs.Supplies.{feed_at, feed_calls, given_back}
use Rattle.edge_names.specs.Opened.{Asks, FailsToOpen, IfFailed, IsSupplied}
use Rattle.edge_names.specs.Returned.{GivesBack}
use Rattle.edge_names.proofs.Seeing.{seen_by}
use Rattle.edge_names.proofs.Merges.{alone}
use Rattle.edge_names.proofs.Supplying.{feed_cut_off, feed_none, feed_not, feed_opened}
use Rattle.edge_names.proofs.opening.supply_source_into.Goals as goal

pub returns-in-Ok-clause-opens : goal.returns-in-Ok-clause-opens
returns-in-Ok-clause-opens g c =
    let seen = seen_by g.E.Edges g.E.Source.ByteSource g.E.Sink.ByteSink in
    let table = body_at g.B.Works.look c.args.bodies.now.items in
    let now = body_at g.B.Works.look c.set_source.new.bodies.items in
    let feed = g.S.Supply.feeds c.args.supply.now c.args.spec.now in
    let single = alone feed 0 c.requires.single in
    let source = source_seen g.S.Source.ByteSource in
    let old = seen c.args.edges.now in
    let new = seen c.supply.new.edges in
    let gives = subst (λ f. IsSupplied old f (Some (source c.in-Ok-Some.source))) single (subst (λ o. IsSupplied old (feed_at feed 0) (option_map source o)) c.in-Ok-Some.field-0-is c.in-Ok-Some.ensures.gives) in
    let asks = subst (λ f. Asks (feed_calls f) old new) single c.in-Ok-Some.ensures.asks in
    feed_opened {T = Unit {0}} tt (option_map pace_of c.args.gate) feed (source c.in-Ok-Some.source) _ c.args.at old new table now asks gives c.in-Ok.ensures.lines c.set_source.ensures.others

pub returns-in-Ok-None-clause-opens : goal.returns-in-Ok-None-clause-opens
returns-in-Ok-None-clause-opens g c =
    let seen = seen_by g.E.Edges g.E.Source.ByteSource g.E.Sink.ByteSink in
    let table = body_at g.B.Works.look c.args.bodies.now.items in
    let feed = g.S.Supply.feeds c.args.supply.now c.args.spec.now in
    let single = alone feed 0 c.requires.single in
    let old = seen c.args.edges.now in
    let new = seen c.supply.new.edges in
    let gives = subst (λ f. IsSupplied old f None) single (subst (λ o. IsSupplied old (feed_at feed 0) (option_map (source_seen g.S.Source.ByteSource) o)) c.in-Ok-None.field-0-is c.in-Ok-None.ensures.gives) in
    let asks = subst (λ f. Asks (feed_calls f) old new) single c.in-Ok-None.ensures.asks in
    feed_none {T = Unit {0}} tt (option_map pace_of c.args.gate) feed c.args.at old new table asks gives

pub returns-in-Err-gated_lines-clause-opens : goal.returns-in-Err-gated_lines-clause-opens
returns-in-Err-gated_lines-clause-opens g c =
    let seen = seen_by g.E.Edges g.E.Source.ByteSource g.E.Sink.ByteSink in
    let feed = g.S.Supply.feeds c.args.supply.now c.args.spec.now in
    let single = alone feed 0 c.requires.single in
    let source = source_seen g.S.Source.ByteSource in
    let old = seen c.args.edges.now in
    let mid = seen c.supply.new.edges in
    let new = seen c.take_back.new.edges in
    let gives = subst (λ f. IsSupplied old f (Some (source c.in-Ok-Some.source))) single (subst (λ o. IsSupplied old (feed_at feed 0) (option_map source o)) c.in-Ok-Some.field-0-is c.in-Ok-Some.ensures.gives) in
    let asks = subst (λ f. Asks (feed_calls f) old mid) single c.in-Ok-Some.ensures.asks in
    let back = subst (λ f. OnOk c.take_back.result (GivesBack (given_back f (Some (OneSource (source c.in-Err-gated_lines.source)))) [] mid new)) single c.take_back.ensures.back in
    feed_cut_off c.take_back.result (option_map pace_of c.args.gate) feed (source c.in-Ok-Some.source) (source c.in-Err-gated_lines.source) old mid new (ap source c.in-Err-gated_lines.ensures.err) asks gives back c.take_back.ensures.nothing

pub returns-in-Err-clause-opens : goal.returns-in-Err-clause-opens
returns-in-Err-clause-opens g c =
    let feed = g.S.Supply.feeds c.args.supply.now c.args.spec.now in
    let seen = seen_by g.E.Edges g.E.Source.ByteSource g.E.Sink.ByteSink in
    let old = seen c.args.edges.now in
    let new = seen c.supply.new.edges in
    let failed = subst (λ f. IfFailed c.in-Err.unopened (λ n. FailsToOpen f n old new)) (alone feed 0 c.requires.single) c.in-Err.ensures.failed in
    let table = body_at g.B.Works.look c.args.bodies.now.items in
    feed_not (Unit {0}) c.in-Err.unopened (option_map pace_of c.args.gate) feed c.args.at old new table table failed c.in-Err.ensures.cut_off
